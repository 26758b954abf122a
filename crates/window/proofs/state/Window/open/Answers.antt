-- A refusal hands back zeros; accepted clusters are kept as they were lent.
use Rattle.std.proofs.Common.{refl}
use Rattle.basics.proofs.RefusalLaws.{not_zero}
use Rattle.window.proofs.OpenLaws.{open_refused, open_sending, open_receiving, open_told}
use Rattle.window.proofs.state.Window.open.Goals as goal

pub returns-in-Err : goal.returns-in-Err
returns-in-Err c = open_refused _ _ _ _ _ _ _ _ c.in-Err.ensures _ c.no_window.ensures (not_zero _)

pub cluster_from-sending-requires : goal.cluster_from-sending-requires
cluster_from-sending-requires c = open_sending _ _ _ _ _ _ _ _ c.in-Ok.ensures refl

pub cluster_from-receiving-requires : goal.cluster_from-receiving-requires
cluster_from-receiving-requires c = open_receiving _ _ _ _ _ _ _ _ c.in-Ok.ensures refl

pub returns-in-Ok : goal.returns-in-Ok
returns-in-Ok c = open_told _ _ _ _ _ _ _ _ c.in-Ok.ensures refl _ _ _ c.cluster_from-sending.ensures c.cluster_from-receiving.ensures c.window_from-window.ensures
