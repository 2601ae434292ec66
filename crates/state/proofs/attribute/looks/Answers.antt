-- `looks` meets its contract: each row is the rule's, computed.
use Rattle.std.proofs.Common.{refl}
use Rattle.ground.specs.Lists.{build}
use Rattle.state.specs.Attribute.{look_of}
use Rattle.state.proofs.attribute.looks.Goals as goal

pub returns : goal.returns
unfolding build look_of
returns c = refl
