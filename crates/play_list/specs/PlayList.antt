-- What the exported `tibsulan_play_list` does with a list of lines and what is lent for the answers.
use Rattle.std.specs.Prelude.{ℕ, ◌+◌, ◌*◌, ◌≤◌, ◌<◌, ◌≡◌, false, List, length}
use Rattle.line_text.specs.Text.{Writes}
use Rattle.line_session.specs.Session.{printed}

-- an answer is 13 bytes long; each byte of the list has room for one, and so has its end
abbrev pub list_room : List ℕ → ℕ
list_room list = 13 * (length list + 1)

-- with that room, what `turns` prints stands at the start of `out`; without it, nothing is altered
pub record PlaysList (list out out' : List ℕ) (r : ℕ) : Type 0 where
  pub played : list_room list ≤ length out → Writes out 0 (printed false list) out' r
  pub refused : length out < list_room list → (out' ≡ out) × (r ≡ 0)
