-- Every clause but the span's and the cluster's, which say that no sum wraps.
use Rattle.words.proofs.JudgeLaws.{words_kept, words_told}
use borrow.Author.Rules.{rules}
use borrow.Author.Tests.{not-true, not-false}
use Rattle.words.proofs.judgement.parts_kept.Goals as goal

pub overflow_cast-n : goal.overflow_cast-n
overflow_cast-n c = search words_kept

pub reports_kept-requires : goal.reports_kept-requires
reports_kept-requires c = (search words_kept, search rules)

pub returns-then-not-reports_kept : goal.returns-then-not-reports_kept
returns-then-not-reports_kept c = search words_kept

pub point_kept-point-requires : goal.point_kept-point-requires
point_kept-point-requires c = (search words_kept, search words_kept, search words_kept, search words_kept, search words_kept)

pub entries_kept-open-requires : goal.entries_kept-open-requires
entries_kept-open-requires c = (search words_kept, search words_kept, search words_kept, search words_kept)

pub returns : goal.returns
returns c = search (words_told, not-true, not-false)
