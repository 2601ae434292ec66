-- What the run of a part rests on and gives: as play has it, with room of its own.
use Rattle.std.specs.Prelude.{ℕ, List}
use Rattle.ground.specs.Lists.{zeros}
use Rattle.playback.specs.Play.{PlayedAll, play_of}
use Rattle.state.specs.declared.panel.Panel.{Panel}
use Rattle.controller.specs.declared.run.Ran.{Ran}
use Rattle.whole.specs.Whole.{RanWhole, ran_whole}

abbrev pub without_given : PlayedAll → RanWhole
without_given x = ran_whole x.played.ran x.memory

-- the answers of 4,096 pairs
unfoldable pub played_part : Panel → Ran → List ℕ → List ℕ → List ℕ → PlayedAll
played_part p so mem rom part = play_of p so mem rom part (zeros 4096)
