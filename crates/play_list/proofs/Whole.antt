-- A list that is played and then finished: how long the replies are, that they have room, and what stands in `out` at the end.
use Prim.Native.Nat.{ℕ, ◌+◌, ◌*◌, ◌-◌, ◌≤◌}
use mathlib.Core.Path.{◌≡◌, refl, sym, ap, subst, ◌∙◌}
use mathlib.Core.Bool.{false}
use mathlib.Core.List.{List, [], ◌∷◌, ◌++◌, append_assoc, append-nil}
use native.Mathlib.Omega.{arith}
use lib.Dec.{eqb}
use lib.ListN.{length, take, drop, replicate, length-append, length-drop, length-replicate, drop_of_length-le}
use lib.Seq.{sets-eq, drop-drop, take_all}
use Rattle.base.proofs.Choices.{either}
use Rattle.kernel.specs.declared.scheduler.Answer.{Answer}
use Rattle.kernel.specs.Calls.{init_words}
use Rattle.line_text.specs.Text.{Writes, digits}
use Rattle.line_text.proofs.Writing.{written_then, written_length, same_text}
use Rattle.line_dispatch.specs.Dispatch.{added_to}
use Rattle.line_session.specs.declared.Session.{Session}
use Rattle.line_session.specs.declared.Played.{Played}
use Rattle.line_session.specs.Session.{opened, frame_in, answer_of, fed, fed_arena, said, after, after_arena, replies, reply, reply_room, rest, Plays, printed}
use Rattle.line_session.proofs.Playing.{both, answer_alone, no_table}
use Rattle.play_list.specs.PlayList.{list_room}

-- ---- how long the replies are

reply_length : (a : Answer) (added : List ℕ) → length (reply false a added) ≡ 13
unfolding digits
reply_length a added = ap length (sym (answer_alone false a added refl))

said_length : (s : Session) (arena : List ℕ) (b : ℕ) → length (said false s arena b) ≤ 13
unfolding said
said_length s arena b = either (λ (t : List ℕ). length t ≤ 13) (eqb b 10) (λ e. omega (arith, reply_length (answer_of false s arena) (added_to s.kernel arena (frame_in false s)))) (λ e. omega arith)

replies_length : (s : Session) (arena bs : List ℕ) → length (replies false s arena bs) ≤ 13 * length bs
unfolding replies
replies_length s arena [] = omega arith
replies_length s arena (b ∷ bs) = omega (arith, length-append (said false s arena b) (replies false (fed false s arena b) (fed_arena false s arena b) bs), said_length s arena b, replies_length (fed false s arena b) (fed_arena false s arena b) bs)

rest_length : (s : Session) → length (rest s) ≤ 1
rest_length s = either (λ (t : List ℕ). length t ≤ 1) (eqb s.line.len 0) (λ e. omega arith) (λ e. omega arith)

-- ---- a part of what is lent, from place n to the end

abbrev pub part : ℕ → List ℕ → List ℕ
part n out = take (length out - n) (drop n out)

abbrev pub back : ℕ → List ℕ → List ℕ → List ℕ
back n out part' = take n out ++ (part' ++ drop (length out - n) (drop n out))

whole_part : (n : ℕ) (out : List ℕ) → part n out ≡ drop n out
whole_part n out = take_all (length out - n) (drop n out) (omega (arith, length-drop n out))

nothing_behind : (n : ℕ) (out part' : List ℕ) → part' ++ drop (length out - n) (drop n out) ≡ part'
nothing_behind n out part' =
    let short : length (drop n out) ≤ length out - n = omega (arith, length-drop n out) in
    ap (λ (l : List ℕ). part' ++ l) (drop_of_length-le (drop n out) short) ∙ append-nil part'

-- what is written at its start is written at n
part_written : {out part' : List ℕ} {m : ℕ} (n : ℕ) (t : List ℕ) → n + length t ≤ length out → Writes (part n out) 0 t part' m → Writes out n t (back n out part') (n + m)
part_written {out} {part'} {m} n t fits w =
    let w' : Writes (drop n out) 0 t part' m = subst (λ (l : List ℕ). Writes l 0 t part' m) (whole_part n out) w in
    let here : part' ≡ t ++ drop (0 + length t) (drop n out) = w'.bytes ∙ sets-eq t (drop n out) 0 (omega (arith, length-drop n out)) in
    let place : n + (0 + length t) ≡ n + length t = omega arith in
    let behind : drop (0 + length t) (drop n out) ≡ drop (n + length t) out = drop-drop (0 + length t) n out ∙ ap (λ (i : ℕ). drop i out) place in
    record {
      bytes = ap (λ (l : List ℕ). take n out ++ l) (nothing_behind n out part' ∙ here ∙ ap (λ (l : List ℕ). t ++ l) behind) ∙ sym (append_assoc (take n out) t (drop (n + length t) out)) ∙ sym (sets-eq t out n fits);
      place = omega (arith, w.place);
    }

-- ---- the list, then its end

pub play_room : (list out : List ℕ) → list_room list ≤ length out → reply_room false * length list ≤ length out
play_room list out fits = omega (arith, ap (λ (each : ℕ). each * length list) (no_table false refl))

-- all that is printed for the list, from any session on
abbrev ended : Session → List ℕ → List ℕ
ended s arena = replies false s arena (rest s)

abbrev told : List ℕ → Session → List ℕ → List ℕ
told list s arena = replies false s arena list ++ ended (after false s arena list) (after_arena false s arena list)

from_fresh : (list : List ℕ) → told list (opened 4096) (init_words 1000 (replicate 4096 0)) ≡ printed false list
unfolding printed
from_fresh list = refl

ended_length : (s : Session) (arena : List ℕ) → length (ended s arena) ≤ 13
ended_length s arena = omega (arith, replies_length s arena (rest s), rest_length s)

module _ {s : Session} {list arena arena' out out' : List ℕ} {p : Played} (first : Plays false s arena list arena' out out' p) (fits : list_room list ≤ length out) where
  first_length : (p.len ≤ 13 * length list) × (length out' ≡ length out)
  first_length = (omega (arith, first.written.place, replies_length s arena list), written_length (replies false s arena list) first.written)

  pub finish_room : reply_room false ≤ length (part p.len out')
  finish_room = omega (arith, no_table false refl, ap length (whole_part p.len out'), length-drop p.len out', first_length)

  module _ {arena'' part' : List ℕ} {q : Played} (second : Plays false p.session arena' (rest p.session) arena'' (part p.len out') part' q) where
    both_written : Writes out 0 (told list s arena) (back p.len out' part') (p.len + q.len)
    both_written =
        same_text (both (λ x a. replies false s arena list ++ ended x a) first.session first.words)
        (written_then _ _ first.written (part_written p.len (ended p.session arena') (omega (arith, first_length, ended_length p.session arena')) second.written))

    -- from an arena of 4,096 words, all zero
    pub all_played : s ≡ opened (length (replicate {A = ℕ} 4096 0)) → arena ≡ init_words 1000 (replicate 4096 0) → Writes out 0 (printed false list) (back p.len out' part') (p.len + q.len)
    all_played fresh words =
        same_text (both (told list) (fresh ∙ ap opened (length-replicate {A = ℕ} 4096 0)) words ∙ from_fresh list) both_written
