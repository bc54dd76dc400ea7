-- The conditions of the third sentence as tests that compute.
use Rattle.std.specs.Prelude.{Bool, true, false, not, ◌&&◌, ◌||◌, List, [], ◌∷◌, ◌++◌, ℕ, suc, ◌+◌, eqb, leb, get_or, take, drop}
use Rattle.kernel.specs.declared.control.TaskId.{TaskId}
use Rattle.kernel.specs.declared.scheduler.Kernel.{Kernel}
use Rattle.kernel.specs.Control.{state_number, same_id}
use Rattle.kernel.specs.Kernel.{slot}
use Rattle.kernel.specs.Rank.{rank}
use Rattle.kernel.specs.Calls.{start, Kind, adding, reaping, starting, switching, ticking, owning, plain, kind, init}
use Rattle.book_guarantees.specs.Lists.{Entry, after, Outcome, turn, tick, other, outcome, turns, ticks_while}
use Rattle.book_guarantees.specs.Turns.{rise}

abbrev pub each : (Entry → Bool) → List Entry → Bool
each p [] = true
each p (e ∷ es) = p e && each p es

abbrev pub each_next : (Entry → Entry → Bool) → List Entry → Bool
each_next r [] = true
each_next r (e ∷ []) = true
each_next r (e ∷ f ∷ es) = r e f && each_next r (f ∷ es)

-- slot j holds the task of id a, Ready or Running
abbrev pub holds : ℕ → TaskId → Kernel → Bool
holds j a k = (slot k j).occupied && (same_id (slot k j).id a && leb (state_number (slot k j).state) 1)

abbrev pub is_turn : ℕ → Outcome → Bool
is_turn i (turn s) = eqb s i
is_turn i (tick w) = false
is_turn i other = false

-- a turn is not one of a slot of a rank below r
abbrev pub not_smaller : ℕ → Kernel → Outcome → Bool
not_smaller r k (turn s) = leb r (rank k s)
not_smaller r k (tick w) = true
not_smaller r k other = true

abbrev pub wants : Outcome → Bool
wants (turn s) = false
wants (tick w) = w
wants other = false

abbrev pub switches : Kind → Bool
switches adding = false
switches reaping = false
switches starting = false
switches switching = true
switches ticking = false
switches owning = false
switches plain = false

abbrev pub accepted_switch : Entry → Bool
accepted_switch e = switches (kind e.call) && eqb e.answer.number 0

-- ---- of entry m of a list, the n after it, and the next one

abbrev pub entry : List Entry → ℕ → Entry
entry es m = get_or es m (record { call = start; answer = init 1000 2112 })

abbrev pub between : List Entry → ℕ → ℕ → List Entry
between es m n = take n (drop (suc m) es)

abbrev pub second : List Entry → ℕ → ℕ → Entry
second es m n = entry es (suc (m + n))

abbrev pub stays : List Entry → ℕ → ℕ → ℕ → TaskId → Bool
stays es m n j a = each (λ e. holds j a (after e)) (entry es m ∷ between es m n)

abbrev pub unchanging : List Entry → ℕ → ℕ → ℕ → Bool
unchanging es m n j = each (λ e. eqb (rank (after e) j) (rank (after (entry es m)) j)) (between es m n)

-- `Stretch` of task a in slot i: first turn, second turn, neighbouring, stays, none smaller, followed; then `Unchanging`
abbrev pub conditions : List Entry → ℕ → ℕ → ℕ → TaskId → List Bool
conditions es m n i a =
    is_turn i (outcome (entry es m))
    ∷ is_turn i (outcome (second es m n))
    ∷ each (λ e. not (is_turn i (outcome e))) (between es m n)
    ∷ stays es m n i a
    ∷ each (λ e. not_smaller (rank (after (entry es m)) i) (after e) (outcome e)) (between es m n)
    ∷ each_next (λ e f. not (wants (outcome e)) || accepted_switch f) (between es m n ++ second es m n ∷ [])
    ∷ unchanging es m n i
    ∷ []

-- `Peer` of slot i, task b in slot j: another, equal, stayed; then `Unchanging`
abbrev pub peer : List Entry → ℕ → ℕ → ℕ → ℕ → TaskId → List Bool
peer es m n i j b = not (eqb j i) ∷ eqb (rank (after (entry es m)) j) (rank (after (entry es m)) i) ∷ stays es m n j b ∷ unchanging es m n j ∷ []

abbrev pub turns_of : List Entry → ℕ → ℕ → ℕ → ℕ
turns_of es m n j = turns j (between es m n)

abbrev pub ticks_of : List Entry → ℕ → ℕ → ℕ → ℕ
ticks_of es m n j = ticks_while j (after (entry es m)) (between es m n)

abbrev pub rise_of : List Entry → ℕ → ℕ → ℕ → ℕ
rise_of es m n j = rise j (entry es m) (between es m n)
