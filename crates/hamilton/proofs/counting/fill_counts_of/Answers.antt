-- Each call gives what the next one needs, and all of them the counts. There are as many keys as members.
use Rattle.std.proofs.Common.{◌≡◌, length}
use Rattle.hamilton.proofs.CountLaws.{rest_few, all_below_lem, keys_differ, quotas_small, counts_told}
use borrow.Author.Rules.{rules}
use Rattle.hamilton.proofs.counting.fill_counts_of.Goals as goal

pub threshold-end-requires-clause-within : goal.threshold-end-requires-clause-within
threshold-end-requires-clause-within c =
    let n : length c.fill_quotas-rest.new.keys ≡ length c.args.shares.now = search rules in
    rw n (search rules, rest_few _ _ c.requires.dealable _ c.fill_quotas-rest.ensures.value, search rules)

pub threshold-end-requires-clause-enough_below : goal.threshold-end-requires-clause-enough_below
threshold-end-requires-clause-enough_below c =
    let quotas = c.fill_quotas-rest.ensures in
    let start = c.requires in
    let n : length c.fill_quotas-rest.new.keys ≡ length c.args.shares.now = search rules in
    rw n (all_below_lem _ _ start.dealable _ _ quotas.keys_after _ quotas.value _ start.total.0)

pub threshold-end-requires-clause-different : goal.threshold-end-requires-clause-different
threshold-end-requires-clause-different c =
    let n : length c.fill_quotas-rest.new.keys ≡ length c.args.shares.now = search rules in
    rw n (keys_differ _ _ c.requires.dealable _ _ c.fill_quotas-rest.ensures.keys_after)

pub add_leftovers-requires : goal.add_leftovers-requires
add_leftovers-requires c =
    let n : length c.fill_quotas-rest.new.keys ≡ length c.args.shares.now = search rules in
    let quotas = c.fill_quotas-rest.ensures in
    record { within = search rules; small = rw n (quotas_small _ _ c.requires.dealable _ _ quotas.keys_after _ quotas.value _ _ quotas.out_after) }

pub returns : goal.returns
returns c =
    let n : length c.fill_quotas-rest.new.keys ≡ length c.args.shares.now = search rules in
    let quotas = c.fill_quotas-rest.ensures in
    counts_told _ _ c.requires.dealable _ _ quotas.keys_after _ quotas.value _ _ quotas.out_after _ _ (rw n at c.threshold-end.ensures) (rw n at c.add_leftovers.ensures)
