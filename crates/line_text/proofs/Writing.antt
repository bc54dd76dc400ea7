-- Texts that are written one after the other are one text; nothing written is a text too; what a part of the slice is set to is put there.
use Prim.Native.Nat.{ℕ, suc, ◌+◌, ◌≤◌}
use mathlib.Core.Path.{◌≡◌, refl, sym, ap, subst, ◌∙◌}
use mathlib.Core.List.{List, [], ◌∷◌, ◌++◌, append_assoc}
use native.Mathlib.Omega.{arith}
use lib.ListN.{length, set, take, length-append}
use lib.Seq.{sets, sets-eq, length-sets, drop-drop}
use borrow.Rule.Slice.Mut.{set_vals}
use borrow.Rule.Slice.PartMut.{put_mid}
use Rattle.line_text.specs.declared.Text.{Text}
use Rattle.line_text.specs.Text.{Writes, Room, Puts}

sets_append : (t u out : List ℕ) (at b : ℕ) → b ≡ at + length t → sets (sets out at t) b u ≡ sets out at (t ++ u)
sets_append [] u out at b e = ap (λ (i : ℕ). sets out i u) (omega (arith, e))
sets_append (x ∷ t) u out at b e = sets_append t u (set out at x) (suc at) b (omega (arith, e))

pub nothing_written : (out : List ℕ) (at : ℕ) → Writes out at [] out at
nothing_written out at = record { bytes = refl; place = omega arith }

-- the second text begins where the first ends
pub written_then : {out out' out'' : List ℕ} {at b c : ℕ} (t u : List ℕ) → Writes out at t out' b → Writes out' b u out'' c → Writes out at (t ++ u) out'' c
written_then {out} {out'} {out''} {at} {b} {c} t u first second =
    record { bytes = second.bytes ∙ ap (λ (o : List ℕ). sets o b u) first.bytes ∙ sets_append t u out at b first.place; place = omega (arith, first.place, second.place, length-append t u) }

-- a text keeps the length of what it is written into
pub written_length : {out out' : List ℕ} {at b : ℕ} (t : List ℕ) → Writes out at t out' b → length out' ≡ length out
written_length {out} {out'} {at} t w = ap length w.bytes ∙ length-sets out at t

pub same_text : {out out' : List ℕ} {at b : ℕ} {t u : List ℕ} → t ≡ u → Writes out at t out' b → Writes out at u out' b
same_text {out} {out'} {at} {b} e w = subst (λ (x : List ℕ). Writes out at x out' b) e w

-- ---- put into a slice that is lent

pub nothing_put : {most : ℕ} (t : Text) → Puts most t [] t
nothing_put {most} t = record { writes = nothing_written t.out.now t.at; short = omega arith; same_slice = refl; same_length = refl }

-- the second text begins where the first ends
infixl 20 ◌⨾◌
pub ◌⨾◌ : {s s' s'' : Text} {t u : List ℕ} {m n : ℕ} → Puts m s t s' → Puts n s' u s'' → Puts (m + n) s (t ++ u) s''
◌⨾◌ {t = t} {u = u} first second =
    record {
      writes = written_then t u first.writes second.writes;
      short = omega (arith, first.short, second.short);
      same_slice = second.same_slice ∙ first.same_slice;
      same_length = second.same_length ∙ first.same_length;
    }

-- the same text, under a bound that is no smaller
pub put_as : {s s' : Text} {t u : List ℕ} {m most : ℕ} → Puts m s t s' → t ≡ u → m ≤ most → Puts most s u s'
put_as {s} {s'} {m = m} {most = most} p e fits =
    let q = subst (λ (x : List ℕ). Puts m s x s') e p in
    record { writes = q.writes; short = omega (arith, q.short); same_slice = q.same_slice; same_length = q.same_length }

pub put_within : {s s' : Text} {t : List ℕ} {m most : ℕ} → Puts m s t s' → m ≤ most → Puts most s t s'
put_within p fits = put_as p refl fits

-- two texts, under a bound that is no smaller
pub put_two : {s s' s'' : Text} {t u : List ℕ} {m n most : ℕ} → Puts m s t s' → Puts n s' u s'' → m + n ≤ most → Puts most s (t ++ u) s''
put_two first second fits = put_within (first ⨾ second) fits

-- a part of the slice that was set to the text
pub put_part : {s : Text} {n : ℕ} (part text : List ℕ) (k : ℕ) → part ≡ text → length text ≡ n → k ≡ n → Room n s → Puts n s text (record { out = set_vals (put_mid s.at k s.out.now part) s.out; at = s.at + n })
put_part {s} part text k e long e' room =
    let bytes : put_mid s.at k s.out.now part ≡ sets s.out.now s.at text =
    rw (sets-eq text s.out.now s.at (omega (arith, long)), long, e, e', drop-drop) (sym (append_assoc (take s.at s.out.now) text _)) in
    record {
      writes = record { bytes = bytes; place = omega (arith, long) };
      short = omega arith;
      same_slice = refl;
      same_length = ap length bytes ∙ length-sets s.out.now s.at text;
    }
