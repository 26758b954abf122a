-- One word stored, and the others are the state's already.
use Rattle.words.proofs.RoundTrip.{sent_alone}
use borrow.Author.Rules.{rules}
use Rattle.words.proofs.sending.put_sent.Goals as goal

pub returns : goal.returns
returns c = search (sent_alone, rules)
