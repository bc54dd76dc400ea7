-- Where an input is parted does not matter; one byte more at the end of what is played, a line feed or any other; a reply with and without the table; room for one reply more.
use Prim.Native.Nat.{ℕ, suc, ◌+◌, ◌*◌, ◌≤◌, ◌<◌}
use mathlib.Core.Path.{◌≡◌, refl, sym, ap, subst, ◌∙◌}
use mathlib.Core.Bool.{Bool, true, false}
use mathlib.Core.List.{List, [], ◌∷◌, ◌++◌, append_assoc, append-nil}
use native.Mathlib.Omega.{arith}
use native.Mathlib.Nat.{mul-le-mul_left, mul-suc}
use native.Mathlib.Numerals.{add-one}
use borrow.Author.Tests.{eq-eqb, ne_eqb, lt-ltb, le-ltb}
use lib.Dec.{eqb}
use lib.ListN.{length, take, drop, get_or, set, length-take}
use lib.Seq.{take-suc, take_all, sets-eq, take-append_seam}
use Rattle.base.proofs.Choices.{taken, left}
use Rattle.line_text.specs.Text.{Writes}
use Rattle.line_text.proofs.Writing.{nothing_written, written_then, same_text}
use Rattle.kernel.specs.declared.scheduler.Kernel.{Kernel}
use Rattle.line_frame.specs.declared.Line.{Line}
use Rattle.line_frame.specs.Frame.{empty_line, lengthened, frame_of}
use Rattle.kernel.specs.declared.scheduler.Answer.{Answer}
use Rattle.line_answer.specs.AnswerLine.{answer_digits}
use Rattle.line_table.specs.TableLine.{table_line}
use Rattle.line_dispatch.specs.Dispatch.{answer_to, words_after, added_to}
use Rattle.line_session.specs.declared.Session.{Session}
use Rattle.line_session.specs.declared.Played.{Played}
use Rattle.line_session.specs.Session.{fed, fed_arena, said, after, after_arena, replies, reply, reply_room, Plays}

-- ---- the definitions over two inputs, one after the other: it does not matter where an input is parted

pub after_append : (tables : Bool) (bs cs : List ℕ) (s : Session) (arena : List ℕ) → after tables s arena (bs ++ cs) ≡ after tables (after tables s arena bs) (after_arena tables s arena bs) cs
unfolding after after_arena
after_append tables [] cs s arena = refl
after_append tables (x ∷ bs) cs s arena = after_append tables bs cs (fed tables s arena x) (fed_arena tables s arena x)

pub arena_append : (tables : Bool) (bs cs : List ℕ) (s : Session) (arena : List ℕ) → after_arena tables s arena (bs ++ cs) ≡ after_arena tables (after tables s arena bs) (after_arena tables s arena bs) cs
unfolding after after_arena
arena_append tables [] cs s arena = refl
arena_append tables (x ∷ bs) cs s arena = arena_append tables bs cs (fed tables s arena x) (fed_arena tables s arena x)

pub replies_append : (tables : Bool) (bs cs : List ℕ) (s : Session) (arena : List ℕ) → replies tables s arena (bs ++ cs) ≡ replies tables s arena bs ++ replies tables (after tables s arena bs) (after_arena tables s arena bs) cs
unfolding after after_arena replies
replies_append tables [] cs s arena = refl
replies_append tables (x ∷ bs) cs s arena = ap (λ (l : List ℕ). said tables s arena x ++ l) (replies_append tables bs cs (fed tables s arena x) (fed_arena tables s arena x)) ∙ sym (append_assoc (said tables s arena x) _ _)

one_reply : (tables : Bool) (s : Session) (arena : List ℕ) (b : ℕ) → said tables s arena b ≡ replies tables s arena (b ∷ [])
unfolding replies
one_reply tables s arena b = sym (append-nil (said tables s arena b))

-- ---- playing

pub nothing_played : (tables : Bool) (s : Session) (arena out : List ℕ) → Plays tables s arena [] arena out out (record { session = s; len = 0 })
unfolding after after_arena replies
nothing_played tables s arena out = record { session = refl; words = refl; written = nothing_written out 0 }

pub same_bytes : {tables : Bool} {s : Session} {arena arena' out out' bs cs : List ℕ} {p : Played} → bs ≡ cs → Plays tables s arena bs arena' out out' p → Plays tables s arena cs arena' out out' p
same_bytes {tables} {s} {arena} {arena'} {out} {out'} {bs} {cs} {p} e played = subst (λ (x : List ℕ). Plays tables s arena x arena' out out' p) e played

pub both : {A : Type 0} (f : Session → List ℕ → A) {x y : Session} {a b : List ℕ} → x ≡ y → a ≡ b → f x a ≡ f y b
both f {x} {y} {a} {b} e e' = ap (λ (z : Session). f z a) e ∙ ap (f y) e'

played_byte : {tables : Bool} {s : Session} {arena bs arena' arena'' out out' out'' : List ℕ} {p q : Played} (b : ℕ) → Plays tables s arena bs arena' out out' p
    → q.session ≡ fed tables p.session arena' b → arena'' ≡ fed_arena tables p.session arena' b → Writes out' p.len (said tables p.session arena' b) out'' q.len
    → Plays tables s arena (bs ++ b ∷ []) arena'' out out'' q
unfolding after after_arena
played_byte {tables} {s} {arena} {bs} {arena'} {arena''} {out} {out'} {out''} {p} {q} b before session words text =
    record {
      session = session ∙ both (λ x a. fed tables x a b) before.session before.words ∙ sym (after_append tables bs (b ∷ []) s arena);
      words = words ∙ both (λ x a. fed_arena tables x a b) before.session before.words ∙ sym (arena_append tables bs (b ∷ []) s arena);
      written =
          same_text (sym (replies_append tables bs (b ∷ []) s arena))
          (written_then _ _ before.written (same_text (one_reply tables p.session arena' b ∙ both (λ x a. replies tables x a (b ∷ [])) before.session before.words) text));
    }

-- the session of a kernel and a line
abbrev pub of : Kernel → Line → ℕ → Played
of k l n = record { session = record { kernel = k; line = l }; len = n }

same_session : {k k' : Kernel} {l l' : Line} (n m : ℕ) → k ≡ k' → l ≡ l' → (of k l n).session ≡ (of k' l' m).session
same_session {k} {k'} {l} {l'} n m e e' = ap (λ (x : Kernel). (of x l 0).session) e ∙ ap (λ (y : Line). (of k' y 0).session) e'

-- the line of those bytes and that length
abbrev pub line : List ℕ → ℕ → Line
line bytes len = record { bytes = bytes; len = len }

pub same_line : {b b' : List ℕ} {n n' : ℕ} → b ≡ b' → n ≡ n' → line b n ≡ line b' n'
same_line {b} {b'} {n} {n'} e e' = ap (λ (x : List ℕ). line x n) e ∙ ap (line b') e'

-- a byte that has room, and one that has none
pub short_line : (l : Line) (b : ℕ) → l.len < 12 → line (set l.bytes l.len b) (l.len + 1) ≡ lengthened l b
unfolding lengthened
short_line l b h = taken _ _ _ _ (lt-ltb l.len 12 h) refl

pub long_line : (l : Line) (b : ℕ) → 12 ≤ l.len → line l.bytes 13 ≡ lengthened l b
unfolding lengthened
long_line l b h = left _ _ _ _ (le-ltb l.len 12 h) refl

-- the text stands where it was written, under other names
pub written_as : {out out' out'' text : List ℕ} {at m n : ℕ} → out'' ≡ out' → n ≡ m → Writes out at text out' m → Writes out at text out'' n
written_as e e' w = record { bytes = e ∙ w.bytes; place = e' ∙ w.place }

-- what is lent holds what was written into it
pub played_into : {tables : Bool} {s : Session} {arena bytes arena' out out' out'' : List ℕ} {p : Played} → Plays tables s arena bytes arena' out out' p → out'' ≡ out' → Plays tables s arena bytes arena' out out'' p
played_into played e = record { session = played.session; words = played.words; written = written_as e refl played.written }

-- what is written from the start on stands there
pub written_first : {out out' : List ℕ} {n : ℕ} (t : List ℕ) → Writes out 0 t out' n → n ≤ length out → take n out' ≡ t
written_first {out} {out'} {n} t w fits =
    let place : n ≡ length t = omega (arith, w.place) in
    let is : out' ≡ t ++ drop (0 + length t) out = w.bytes ∙ sets-eq t out 0 (omega (arith, w.place)) in
    rw (place, is) (take-append_seam t _)

pub first_length : (n most : ℕ) (l : List ℕ) → n ≤ most → length (take n l) ≤ most
first_length n most l h = omega (arith, length-take n l)

one_more : (input : List ℕ) (i : ℕ) → i < length input → take i input ++ get_or input i 0 ∷ [] ≡ take (i + 1) input
one_more input i lt = sym (ap (λ (j : ℕ). take j input) (add-one i) ∙ take-suc input i 0 lt)

pub played_more : {tables : Bool} {s : Session} {arena arena' arena'' out out' out'' : List ℕ} (input : List ℕ) (i : ℕ) {k k' : Kernel} {l l' : Line} {n m : ℕ} → i < length input → (get_or input i 0 ≡ 10 → ⊥)
    → Plays tables s arena (take i input) arena' out out' (of k l n)
    → k' ≡ k → l' ≡ lengthened l (get_or input i 0) → arena'' ≡ arena' → out'' ≡ out' → m ≡ n
    → Plays tables s arena (take (i + 1) input) arena'' out out'' (of k' l' m)
unfolding fed fed_arena said
played_more {tables} {s} {arena} {arena'} {arena''} {out} {out'} {out''} input i {k} {k'} {l} {l'} {n} {m} lt other before kernel line words text place =
    let b = get_or input i 0 in
    let not : eqb b 10 ≡ false = ne_eqb b 10 other in
    same_bytes (one_more input i lt)
    (played_byte b before (left _ _ _ _ not (same_session m n kernel line)) (left _ _ _ _ not words) (written_as text place (same_text (left _ _ _ _ not refl) (nothing_written out' n))))

pub played_line : {tables : Bool} {s : Session} {arena arena' arena'' out out' out'' : List ℕ} (input : List ℕ) (i : ℕ) {k k' : Kernel} {l l' : Line} {n m : ℕ} → i < length input → get_or input i 0 ≡ 10
    → Plays tables s arena (take i input) arena' out out' (of k l n)
    → k' ≡ (answer_to k arena' (frame_of tables l)).kernel → l' ≡ empty_line → arena'' ≡ words_after k arena' (frame_of tables l) → Writes out' n (reply tables (answer_to k arena' (frame_of tables l)) (added_to k arena' (frame_of tables l))) out'' m
    → Plays tables s arena (take (i + 1) input) arena'' out out'' (of k' l' m)
unfolding fed fed_arena said
played_line {tables} {s} {arena} {arena'} {arena''} {out} {out'} {out''} input i {k} {k'} {l} {l'} {n} {m} lt line-feed before kernel line words text =
    let b = get_or input i 0 in
    let ends : eqb b 10 ≡ true = eq-eqb b 10 line-feed in
    same_bytes (one_more input i lt)
    (played_byte b before (taken _ _ _ _ ends (same_session m n kernel line)) (taken _ _ _ _ ends words) (same_text (taken _ _ _ _ ends refl) text))

pub played_all : {tables : Bool} {s : Session} {arena arena' out out' : List ℕ} (input : List ℕ) (i : ℕ) {p : Played} → length input ≤ i → Plays tables s arena (take i input) arena' out out' p → Plays tables s arena input arena' out out' p
played_all input i l before = same_bytes (take_all i input l) before

-- ---- a reply, with and without the table

pub no_table : (tables : Bool) → tables ≡ false → reply_room tables ≡ 13
no_table tables e = sym (left _ _ _ _ e refl)

pub with_table : (tables : Bool) → tables ≡ true → reply_room tables ≡ 10356
with_table tables e = sym (taken _ _ _ _ e refl)

pub answer_room : (tables : Bool) → 13 ≤ reply_room tables
answer_room true = omega (arith, with_table true refl)
answer_room false = omega (arith, no_table false refl)

pub answer_alone : (tables : Bool) (a : Answer) (added : List ℕ) → tables ≡ false → answer_digits a ++ (10 ∷ []) ≡ reply tables a added
unfolding reply
answer_alone tables a added e = ap (λ (t : List ℕ). answer_digits a ++ t) (left _ _ _ _ e refl)

pub answer_and_table : (tables : Bool) (a : Answer) (added : List ℕ) → tables ≡ true → ((answer_digits a ++ added) ++ (10 ∷ [])) ++ table_line a.kernel ≡ reply tables a added
unfolding reply
answer_and_table tables a added e = append_assoc (answer_digits a ++ added) (10 ∷ []) _ ∙ append_assoc (answer_digits a) added _ ∙ ap (λ (t : List ℕ). answer_digits a ++ t) (taken _ _ _ _ e refl)

pub same_reply : (tables : Bool) {a b : Answer} {t u : List ℕ} → a ≡ b → t ≡ u → reply tables a t ≡ reply tables b u
same_reply tables {a} {b} {t} {u} e e' = ap (λ (x : Answer). reply tables x t) e ∙ ap (reply tables b) e'

-- ---- room

-- after i replies there is room for one more
pub room_left : (each bytes room i n : ℕ) → each * bytes ≤ room → i < bytes → n ≤ each * i → n + each ≤ room
room_left each bytes room i n fits lt l =
    let more : each * suc i ≤ each * bytes = mul-le-mul_left each lt in
    omega (arith, more, mul-suc each i, fits, l)

-- one byte more makes at most one reply more
pub room_used : (each i n m : ℕ) → n ≤ each * i → m ≤ n + each → m ≤ each * (i + 1)
room_used each i n m l le =
    let more : each * (i + 1) ≡ each * i + each = ap (λ (j : ℕ). each * j) (add-one i) ∙ mul-suc each i in
    omega (arith, more, l, le)

pub room_enough : (each bytes room i n : ℕ) → each * bytes ≤ room → i ≤ bytes → n ≤ each * i → n ≤ room
room_enough each bytes room i n fits le l =
    let all : each * i ≤ each * bytes = mul-le-mul_left each le in
    omega (arith, all, fits, l)
