-- `wavemem::table::Table::new` meets its contract: the codes of the letters are those of the table.
-- Assumes nothing.
use Rattle.value.specs.Level.{code_of, fold, place_in}
use Rattle.wavemem.proofs.Packing.{by_low_bits}
use Rattle.wavemem.proofs.table.Table.new.Goals as goal

pub invariant_of-result : goal.invariant_of-result
unfolding code_of place_in fold
invariant_of-result c =
    record {
      by_low_bits =
          rw (c.code_of-u.ensures, c.code_of-x.ensures, c.code_of-zero.ensures, c.code_of-one.ensures)
          (rw (c.code_of-z.ensures, c.code_of-w.ensures, c.code_of-l.ensures, c.code_of-h.ensures, c.code_of-d.ensures) by_low_bits);
    }
