-- The text of the first records goes by those alone.
use Prim.Native.Nat.{ℕ, ◌<◌, ◌≤◌}
use native.Mathlib.Omega.{arith}
use mathlib.Core.Path.{◌≡◌, ap, ◌∙◌}
use mathlib.Core.List.{List, ◌∷◌}
use lib.ListN.{get_or, length, take, length-take}
use Rattle.std.proofs.lemmas.List.{get_or-take}
use Rattle.kernel.specs.declared.control.TaskInfo.{TaskInfo}
use Rattle.call_list.specs.Records.{blank_info}
use Rattle.line_objects.proofs.Joined.{joined_same}
use Rattle.line_records.specs.RecordsText.{info_text, records_text, list_text}

pub same_first : (count : ℕ) (r s : List TaskInfo) → ((i : ℕ) → i < count → get_or r i blank_info ≡ get_or s i blank_info) → list_text count r ≡ list_text count s
unfolding records_text
same_first count r s f = ap (λ (t : List ℕ). 32 ∷ t) (joined_same 59 count (λ i h. ap info_text (f i h)))

pub first_alone : (count : ℕ) (r : List TaskInfo) → count ≤ length r → list_text (length (take count r)) (take count r) ≡ list_text count r
first_alone count r h =
    let long : length (take count r) ≡ count = omega (arith, length-take count r) in
    ap (λ n. list_text n (take count r)) long ∙ same_first count (take count r) r (λ i g. get_or-take count r i blank_info g)
