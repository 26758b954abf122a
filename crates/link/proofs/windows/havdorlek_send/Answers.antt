-- Ill-formed words are 17 and stay; so do those of a refused call; an accepted one puts S alone.
use Rattle.std.proofs.Common.{refl, ◌∙◌}
use Rattle.basics.proofs.RefusalLaws.{not_zero}
use Rattle.link.proofs.WindowLaws.{fit_known, sent_in_range, point_in_range, send_ill, send_ill_words, send_is, send_refused_words, send_done, send_done_words}
use Rattle.link.proofs.windows.havdorlek_send.Goals as goal

pub returns-then-not-formed : goal.returns-then-not-formed
returns-then-not-formed c =
    let ill = c.if-not-formed.true in
    (c.number.ensures ∙ send_ill _ _ c.formed.ensures ill _, send_ill_words _ _ c.formed.ensures ill _)

pub next_refusal-requires : goal.next_refusal-requires
next_refusal-requires c =
    let well = c.if-not-formed.false in
    (sent_in_range _ _ c.formed.ensures well, point_in_range _ _ c.formed.ensures well)

pub put_sent-requires : goal.put_sent-requires
put_sent-requires c = fit_known _ _ c.formed.ensures c.if-not-formed.false

pub returns-in-Ok : goal.returns-in-Ok
returns-in-Ok c =
    let well = c.if-not-formed.false in
    (send_done _ _ c.formed.ensures well _ _ c.in-Ok.ensures refl, send_done_words _ _ c.formed.ensures well _ _ c.in-Ok.ensures _ c.put_sent.ensures refl)

pub returns-in-Err : goal.returns-in-Err
returns-in-Err c =
    let well = c.if-not-formed.false in
    (c.number-in-Err.ensures ∙ send_is _ _ c.formed.ensures well _ _ c.in-Err.ensures, send_refused_words _ _ c.formed.ensures well _ _ c.in-Err.ensures (not_zero _))
