-- The records of a list call as `tables` prints them, behind the digits of the answer.
use Rattle.std.specs.Prelude.{ℕ, true, List, ◌∷◌, ◌++◌, get_or, decimal}
use Rattle.kernel.specs.declared.control.TaskInfo.{TaskInfo}
use Rattle.kernel.specs.Control.{state_number}
use Rattle.call_list.specs.Records.{blank_info}
use Rattle.line_objects.specs.ObjectsLine.{joined}
use Rattle.line_table.specs.TableLine.{field}

-- id, state, priority, used, total
unfoldable pub info_text : TaskInfo → List ℕ
info_text info = decimal info.id.0 ++ field (state_number info.state) ++ field info.priority.0 ++ field info.stack_used ++ field info.stack_total

-- the first so many, joined by `;`
unfoldable pub records_text : ℕ → List TaskInfo → List ℕ
records_text count records = joined 59 (λ i. true) (λ i. info_text (get_or records i blank_info)) count

-- after a blank
abbrev pub list_text : ℕ → List TaskInfo → List ℕ
list_text count records = 32 ∷ records_text count records
