-- The sum of the part, in which no share has more than 32 bits.
use mathlib.Core.Path.{◌≡◌}
use Prim.Native.Nat.{◌+◌, ◌-◌, ◌*◌, ◌≤◌}
use borrow.Rule.Slice.PartMut.{mid_of}
use Rattle.std.specs.List.{sum}
use Rattle.std.proofs.iter.runs.Made.{chains}
use Rattle.words.proofs.SpanLaws.{sum_low, total_told}
use borrow.Author.Rules.{rules}
use Rattle.words.proofs.clusters.total_at.Goals as goal

pub sum-requires-clause-fits : goal.sum-requires-clause-fits
sum-requires-clause-fits c =
    let low : sum (mid_of c.args.at (c.args.at + c.args.n - c.args.at) c.args.words.now) ≤ c.args.n * 4294967295 = search (sum_low, rules) in
    search (rules, chains)

pub returns : goal.returns
returns c =
    let all : c.sum.result ≡ sum (mid_of c.args.at (c.args.at + c.args.n - c.args.at) c.args.words.now) = search (rules, chains) in
    let low : sum (mid_of c.args.at (c.args.at + c.args.n - c.args.at) c.args.words.now) ≤ c.args.n * 4294967295 = search (sum_low, rules) in
    (search (total_told, rules), search rules)
