-- `encode` meets its contract: all bytes, or nothing.
use Rattle.image.proofs.Images.{not_written}
use Rattle.image.proofs.image.encode.Goals as goal

pub returns-else-out-eq25 : goal.returns-else-out-eq25
returns-else-out-eq25 c = not_written _ _ c.if-out-eq25.false
