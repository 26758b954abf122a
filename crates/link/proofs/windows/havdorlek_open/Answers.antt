-- Zeros are put; where the opening is not refused, then the state that the two clusters give.
use Rattle.std.proofs.Common.{refl, ◌∙◌, arith, rules}
use Rattle.basics.proofs.RefusalLaws.{not_zero}
use Rattle.link.proofs.OpenLaws.{refused_number, refused_words, opened_number, opened_words}
use Rattle.window.proofs.OpenLaws.{open_sending, open_receiving}
use Rattle.link.proofs.windows.havdorlek_open.Goals as goal

pub put_opened-requires : goal.put_opened-requires
put_opened-requires c =
    let sending = open_sending _ _ _ _ _ _ _ _ c.in-Ok.ensures refl in
    let receiving = open_receiving _ _ _ _ _ _ _ _ c.in-Ok.ensures refl in
    (omega (arith, sending, receiving), omega (arith, sending, receiving), search rules)

pub returns-in-Ok : goal.returns-in-Ok
returns-in-Ok c =
    let l = c.link_of-link.ensures in
    let e = rw (l.sending.0, l.sending.1, l.sending.2, l.receiving.0, l.receiving.1, l.receiving.2, l.quantum) at c.in-Ok.ensures in
    let put = simp (l.sending.0, l.sending.1, l.sending.2, l.receiving.0, l.receiving.1, l.receiving.2, l.quantum) at c.put_opened.ensures in
    (opened_number _ _ _ _ _ _ _ _ e refl, opened_words _ _ _ _ _ _ _ _ e refl _ put)

pub returns-in-Err : goal.returns-in-Err
returns-in-Err c =
    let l = c.link_of-link.ensures in
    let e = rw (l.sending.0, l.sending.1, l.sending.2, l.receiving.0, l.receiving.1, l.receiving.2, l.quantum) at c.in-Err.ensures in
    (c.number.ensures ∙ refused_number _ _ _ _ _ _ _ _ e (not_zero _), refused_words _ _ _ _ _ _ _ _ e (not_zero _) _ c.put_none.ensures)
