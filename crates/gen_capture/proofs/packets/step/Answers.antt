use Rattle.std.proofs.Common.{◌*◌, ◌^◌}
use Rattle.std.proofs.Math.Nat.{mod-add-mod}
use Rattle.gen_capture.specs.Packets.{step}
use Rattle.gen_capture.proofs.packets.step.Goals as goal

pub returns : goal.returns
unfolding step
returns c = mod-add-mod (6364136223846793005 * c.args.state) (2 ^ 64) 1442695040888963407
