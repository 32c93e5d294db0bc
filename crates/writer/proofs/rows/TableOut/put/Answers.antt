-- `writer::rows::TableOut::put` meets its contract: its stores are the row's words.
use mathlib.Core.Path.{refl}
use native.Mathlib.Omega.{arith}
use Rattle.table.specs.TableRows.{words_of}
use Rattle.writer.proofs.WritingLaws.{row_stores}
use Rattle.writer.proofs.rows.TableOut.put.Goals as goal

pub returns : goal.returns
unfolding words_of
returns c =
    let x = c.args in
    let out = x.self.now in
    record {
      wrote = record { words = row_stores out.table.now out.place x.kind x.d x.a x.b; place_after = omega arith };
      same_table = refl;
      same_variables = refl;
    }
