-- What the code is handed of a planned sheet, and the rows that come of it.
use Rattle.std.specs.Prelude.{List}
use Rattle.sheet.specs.Rows.{Row}
use Rattle.table.specs.Inner.MarkedRows.{RowsReadable}
use Rattle.writer.specs.declared.sweep.Handed as code
use Rattle.writer.specs.Inner.RowsWritten.{Handed, handed, forward_all}

abbrev pub handed_by : code.Handed → Handed
handed_by given = handed given.words.now given.shape given.marks.now given.came.now given.goes.now

abbrev pub forward_of : code.Handed → List Row
forward_of given = forward_all given.words.now given.shape given.marks.now

abbrev pub Readable : code.Handed → Type 0
Readable given = RowsReadable given.words.now given.shape given.marks.now
