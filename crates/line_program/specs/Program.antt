-- Which of the two programs has the notation of `tables`, and prints the table.
use Rattle.std.specs.Prelude.{Bool, true, false}
use Rattle.line_program.specs.declared.Program.{Program}
use Rattle.line_program.specs.declared.Program.TheVariants.{Turns, Tables}

abbrev pub has_table : Program → Bool
has_table Turns = false
has_table Tables = true
