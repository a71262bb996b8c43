-- Inner: packed levels by what they hold.
-- Assumes nothing.
use Rattle.signal.specs.declared.packed.Packed.{Packed}
use Rattle.signal.specs.Parts.{Unpacked}

abbrev pub is_packed : Packed → Unpacked
is_packed p = record { width = p.width; set = p.states; part = p.bytes.now }
