-- The span and the cluster are judged first, so that no sum wraps; then every other clause.
use Rattle.words.proofs.JudgeLaws.{words_refused, span_told, cluster_told}
use borrow.Author.Tests.{not-false}
use borrow.Author.Rules.{rules}
use Rattle.words.proofs.judgement.downstream_kept.Goals as goal

pub returns-then-not-span_kept : goal.returns-then-not-span_kept
returns-then-not-span_kept c = search words_refused

pub returns-then-not-cluster_kept : goal.returns-then-not-cluster_kept
returns-then-not-cluster_kept c = search words_refused

pub parts_kept-requires : goal.parts_kept-requires
parts_kept-requires c = (search rules, search (span_told, not-false), cluster_told _ _ c.cluster_kept.ensures (search not-false))
