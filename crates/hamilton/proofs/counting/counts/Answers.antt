-- The judgement is the definition, and a refusal leaves the output; otherwise the counts fill its first places.
use Rattle.basics.proofs.RefusalLaws.{passed, refused}
use Rattle.hamilton.proofs.JudgeLaws.{cluster_refused, total_told, later_refused, counts_dealable, counts_room, counts_answered}
use Rattle.hamilton.proofs.counting.counts.Goals as goal

pub returns-in_err-judged : goal.returns-in_err-judged
returns-in_err-judged c =
    let same = refused _ c.from_residual.result _ c.in_err-judged.was c.from_residual.ensures.1 in
    cluster_refused _ _ _ _ _ _ c.judge-judged.ensures _ same.0 same.1

pub returns-in_err-later_refusal : goal.returns-in_err-later_refusal
returns-in_err-later_refusal c =
    let ok = passed _ _ c.in_ok-judged.was in
    let same = refused _ c.from_residual-in_err-later_refusal.result _ c.in_err-later_refusal.was c.from_residual-in_err-later_refusal.ensures.1 in
    later_refused _ _ _ _ _ _ c.judge-judged.ensures ok _ c.later_refusal.ensures _ same.0 same.1

pub fill_counts_of-requires : goal.fill_counts_of-requires
fill_counts_of-requires c =
    let ok = passed _ _ c.in_ok-judged.was in
    let later = passed _ _ c.in_ok-later_refusal.was in
    let judged = c.judge-judged.ensures in
    let room = c.later_refusal.ensures in
    record {
      dealable = counts_dealable _ _ _ _ c.args.out.now _ judged ok _ room later;
      total = (total_told _ _ _ c.args.q c.args.out.now _ judged ok, counts_room _ _ _ _ _ _ judged ok _ room later);
    }

pub returns : goal.returns
returns c =
    let ok = passed _ _ c.in_ok-judged.was in
    let later = passed _ _ c.in_ok-later_refusal.was in
    counts_answered _ _ _ _ _ _ c.judge-judged.ensures ok _ c.later_refusal.ensures later _ c.fill_counts_of.ensures
