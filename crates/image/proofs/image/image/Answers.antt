-- `image` meets its contract, byte by byte.
use Rattle.std.proofs.Common.{rules}
use Rattle.image.proofs.Images.{flagged, bytes-are}
use Rattle.image.proofs.image.image.Goals as goal

pub returns : goal.returns
returns c = bytes-are c.args.registers (search rules) (search rules) (search rules) (search rules) (search rules) (search rules) c.from-combination.ensures (flagged _ c.from-external.ensures) (flagged _ c.from-graphic.ensures) (flagged _ c.from-text.ensures) (flagged _ c.from-cursor.ensures) (flagged _ c.from-blink.ensures) c.from-auto.ensures (flagged _ c.from-error.ensures) (flagged _ c.from-phase.ensures)
