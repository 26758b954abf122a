-- The bytes fill the part that is lent for them.
use Rattle.lines.proofs.TextLaws.{bytes_put}
use borrow.Author.Rules.{rules}
use Rattle.lines.proofs.text.put_bytes.Goals as goal

pub returns : goal.returns
returns c = search (bytes_put, rules)
