-- What comes back of a book that is laid out anew, read from the results.
use Rattle.std.specs.Prelude.{ℕ, List, map, Result, Ok, Err}
use Rattle.ground.specs.Lists.{zeros}
use Rattle.state.specs.Refusals.{number_of}
use Rattle.state.specs.declared.refusal.Refused.{Refused}
use Rattle.layout.specs.declared.saved.Saved.{Saved}
use Rattle.layout.specs.declared.saved.Salvaged.{Salvaged as Reported}
use Rattle.layout.specs.Moved.{Moved}
use Rattle.layout.specs.Saved.{Salvaged}

-- the bytes of the moved book, or a refusal with its place
abbrev pub moved : Result ℕ Refused → Moved
moved (Ok n) = record { number = 0; place = 0; size = n }
moved (Err e) = record { number = number_of e.refusal; place = e.place; size = 0 }

-- the bytes kept of screens, and dropped
abbrev pub kept : List Saved → List ℕ
kept ss = map (λ (s : Saved). s.kept) ss

abbrev pub dropped : List Saved → List ℕ
dropped ss = map (λ (s : Saved). s.dropped) ss

-- the bytes of the saved book, and of each of its screens the bytes kept and dropped; or a refusal with its place
abbrev pub salvaged : Result Reported Refused → Salvaged
salvaged (Ok s) = record { number = 0; place = 0; size = s.size; count = s.count; kept = kept s.screens; dropped = dropped s.screens }
salvaged (Err e) = record { number = number_of e.refusal; place = e.place; size = 0; count = 0; kept = zeros 64; dropped = zeros 64 }
