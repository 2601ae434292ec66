-- 01, A displayed byte: where text or graphic has the byte of a row and a column.
use Rattle.std.specs.Prelude.{ℕ, ◌+◌, ◌*◌, ◌%◌}
use Rattle.state.specs.Types.{Plane}

-- home + row·area + column, modulo 65,536
abbrev pub address_of : Plane → ℕ → ℕ → ℕ
address_of q row c = (q.home + row * q.area + c) % 65536
