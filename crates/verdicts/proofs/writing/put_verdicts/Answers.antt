use mathlib.Core.Path.{◌∙◌}
use Rattle.verdicts.proofs.DealtLaws.{dealt_member, dealt_sender, slot_start, slot_next}
use Rattle.verdicts.proofs.WriteLaws.{small_count, small_fits, put_from, written_start, written_none, written_at, written_turn, written_bound, written_kept, written_done, written_length}
use borrow.Author.Rules.{rules}
use Rattle.verdicts.proofs.writing.put_verdicts.Goals as goal

pub loop-o-init : goal.loop-o-init
loop-o-init c = (search rules, search rules, search written_none, search written_start, search rules, search rules, search slot_start)

pub overflow_cast-count : goal.overflow_cast-count
overflow_cast-count c = search small_fits

pub put_due-at-requires : goal.put_due-at-requires
put_due-at-requires c = (search rules, search dealt_member, search small_count)

pub loop-o-preserved : goal.loop-o-preserved
loop-o-preserved c = let put = c.put_due-at.ensures in
    let marked = c.is_marked-marked.ensures in
    let loop = c.loop-o in
    let inv = loop.invariant in
    let a = c.args in
    let dealt = c.deal-sender.ensures in
    let sender = dealt_sender _ _ _ _ c.requires.ready.0 _ _ _ _ inv.6 (rw (inv.4, inv.5) at dealt.owner.0) in
    let from = put_from a.table.now.ss.now a.table.now.rs.now a.dealer.q a.due a.counts.now a.p _ loop.o loop.at c.is_marked-marked.result loop.out _ sender put.1 in
    (search (written_kept, from, rules), search written_bound, written_at _ _ _ _ _ _ _ _ _ marked inv.2 _ put.0, written_turn _ _ _ _ _ _ _ _ _ marked inv.2 _ _ _ inv.3 from _ put.0, dealt.next.0 ∙ inv.4, dealt.next.1 ∙ inv.5, slot_next _ _ _ _ _ inv.6 (rw inv.5 at dealt.next.2))

pub returns : goal.returns
returns c = (search written_length, search written_done)
