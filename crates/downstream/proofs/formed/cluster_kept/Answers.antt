use Rattle.std.proofs.Common.{◌≡◌, ◌∙◌, drop, rules}
use lib.Dec.{eqb}
use Rattle.std.specs.List.{list_all}
use Rattle.basics.specs.Refusals.{outcome_number}
use Rattle.basics.proofs.RefusalLaws.{done}
use Rattle.downstream.specs.Formed.{places_zero}
use Rattle.downstream.proofs.FormedLaws.{cluster_many, cluster_judged}
use Rattle.downstream.proofs.ListLaws.{all_behind}
use Rattle.downstream.proofs.formed.cluster_kept.Goals as goal

pub returns-then-n-gt64 : goal.returns-then-n-gt64
returns-then-n-gt64 c = search cluster_many

pub returns : goal.returns
unfolding places_zero
returns c =
    let a = c.args.c in
    let zero : c.all_zero.result ≡ list_all (λ x. eqb x 0) (drop a.members a.shares) = search rules in
    rw (c.is_ok-accepted.ensures.value, done c.refusal.result)
    (cluster_judged a (outcome_number c.refusal.result) c.all_zero.result (search rules) (search rules) (zero ∙ all_behind _ 0 a.members 64 a.shares (search rules) (search rules)))
