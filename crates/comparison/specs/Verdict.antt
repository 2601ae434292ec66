-- 02, Req 06: two logs from the same panel, memory and ROM, both from reset.
use Rattle.std.specs.Prelude.{ℕ, Result, Ok, Err, ◌+◌, Bool, cond, ◌&&◌, List, eqb, length}
use Rattle.state.specs.State.{valid_panel, reset_registers}
use Rattle.entries.specs.Listed.{Difference, differences_from}
use Rattle.entries.specs.Entered.{Entered, EnteredAll, entered_of}
use Rattle.comparison.specs.Types.{Panel}
use Rattle.comparison.specs.declared.compare.Compared.{Compared as Differences}
use Rattle.comparison.specs.declared.compare.Refused.{Refused}
use Rattle.whole.specs.Whole.{RanWhole, whole_of}
use Rattle.image.specs.Registered.{register_values}
use Rattle.comparison.specs.Apart.{dots_apart}

-- a number, its place and the log it is of; the entries of memory, then of registers; the dots that differ
pub record Compared : Type 0 where
  pub number : ℕ
  pub place : ℕ
  pub log : ℕ
  pub memory : ℕ
  pub registers : ℕ
  pub dots : ℕ

-- a reply, both memories and the list then
pub record ComparedAll : Type 0 where
  pub compared : Compared
  pub one : List ℕ
  pub two : List ℕ
  pub list : List ℕ

abbrev pub compared_all : Compared → List ℕ → List ℕ → List ℕ → ComparedAll
compared_all c one two list = record { compared = c; one = one; two = two; list = list }

-- a number, its place and the log it is of, 0 for neither; nothing is listed then
abbrev pub uncompared : ℕ → ℕ → ℕ → Compared
uncompared n place log = record { number = n; place = place; log = log; memory = 0; registers = 0; dots = 0 }

-- what an answer of `compare` stands for
abbrev pub compared : Result Differences Refused → Compared
compared (Ok d) = record { number = 0; place = 0; log = 0; memory = d.memory; registers = d.registers; dots = d.dots }
compared (Err e) = uncompared e.number e.place e.log

-- two machines: their memories' differences, and their registers'
abbrev pub memory_apart : RanWhole → RanWhole → List Difference
memory_apart a b = differences_from 0 a.memory b.memory

abbrev pub registers_apart : RanWhole → RanWhole → List Difference
registers_apart a b = differences_from 0 (register_values a.ran.registers) (register_values b.ran.registers)

-- what was entered in the list, and the dots beside it; 15 where the list is too short, with the entries needed
abbrev pub told_of : Entered → ℕ → Compared
told_of e dots =
    cond e.listed
    (record { number = 0; place = 0; log = 0; memory = e.bytes; registers = e.values; dots = dots })
    (uncompared 15 (e.bytes + e.values) 0)

abbrev pub compared_list : List ℕ → List ℕ → ℕ → EnteredAll → ComparedAll
compared_list one two dots x = compared_all (told_of x.entered dots) one two x.list

-- log two has run in the second memory: every address whose bytes differ, then every register that does
unfoldable pub after_two : Panel → List ℕ → List ℕ → RanWhole → RanWhole → ComparedAll
after_two p rom list a b =
    cond (eqb b.ran.number 0)
    (compared_list a.memory b.memory (dots_apart p a.ran.registers.display a.memory b.ran.registers.display b.memory rom)
    (entered_of list (memory_apart a b) (registers_apart a b)))
    (compared_all (uncompared b.ran.number b.ran.place 2) a.memory b.memory list)

-- log one has run in the first memory; the second is a copy of it as it was
unfoldable pub after_one : Panel → List ℕ → List ℕ → List ℕ → List ℕ → RanWhole → ComparedAll
after_one p one rom log list a =
    cond (eqb a.ran.number 0)
    (after_two p rom list a (whole_of p reset_registers one rom log))
    (compared_all (uncompared a.ran.number a.ran.place 1) a.memory one list)

-- two lent memories of 64 KiB each, and the ROM
abbrev pub memories_fit : List ℕ → List ℕ → List ℕ → Bool
memories_fit one two rom = eqb (length one) 65536 && eqb (length two) 65536 && eqb (length rom) 1024

-- 1, 2; then those of log one, those of log two, 15
unfoldable pub compare_of : Panel → List ℕ → List ℕ → List ℕ → List ℕ → List ℕ → List ℕ → ComparedAll
compare_of p one two rom first second list =
    cond (valid_panel p)
    (cond (memories_fit one two rom)
    (after_one p one rom second list (whole_of p reset_registers one rom first))
    (compared_all (uncompared 2 0 0) one two list))
    (compared_all (uncompared 1 0 0) one two list)
