-- What the programs `turns` and `tables` make of their input, byte by byte (01, "Program `turns`"; README, "The operations" and "The table line").
use Rattle.std.specs.Prelude.{ℕ, ◌≡◌, Bool, List, [], ◌∷◌, ◌++◌, eqb, replicate, Option}
use Rattle.base.specs.Choice.{if◌then◌otherwise◌}
use Rattle.kernel.specs.declared.scheduler.Answer.{Answer}
use Rattle.kernel.specs.Calls.{init, init_words}
use Rattle.line_frame.specs.declared.Frame.{Frame}
use Rattle.line_frame.specs.Frame.{empty_line, lengthened, frame_of}
use Rattle.line_text.specs.Text.{Writes}
use Rattle.line_dispatch.specs.Dispatch.{answer_to, words_after, added_to}
use Rattle.line_answer.specs.AnswerLine.{answer_digits}
use Rattle.line_table.specs.TableLine.{table_line}
use Rattle.line_session.specs.declared.Session.{Session}
use Rattle.line_session.specs.declared.Played.{Played}

-- the session before any input: hz 1000 and an arena of that many words; the blank kernel where `init` refuses so many
abbrev pub opened : ℕ → Session
opened words = record { kernel = (init 1000 words).kernel; line = empty_line }

-- ---- a line

-- the frame of the line so far, in the notation of `tables` or of `turns`
abbrev pub frame_in : Bool → Session → Option Frame
frame_in tables s = frame_of tables s.line

-- the answer to it
abbrev pub answer_of : Bool → Session → List ℕ → Answer
answer_of tables s arena = answer_to s.kernel arena (frame_in tables s)

-- the answer's digits and a line feed; `tables` has what is added between them, and the table's line after them
unfoldable pub reply : Bool → Answer → List ℕ → List ℕ
reply tables a added = answer_digits a ++ (if tables then added ++ (10 ∷ table_line a.kernel) otherwise 10 ∷ [])

-- no reply is longer: 12 for the digits, 1,681 for what is added, 1 for the line feed, 8,662 for the table
abbrev pub reply_room : Bool → ℕ
reply_room tables = if tables then 10356 otherwise 13

-- ---- a byte: a line feed ends the line, any other lengthens it

unfoldable pub fed : Bool → Session → List ℕ → ℕ → Session
fed tables s arena b =
    if eqb b 10 then record { kernel = (answer_of tables s arena).kernel; line = empty_line }
    otherwise record { kernel = s.kernel; line = lengthened s.line b }

unfoldable pub fed_arena : Bool → Session → List ℕ → ℕ → List ℕ
fed_arena tables s arena b = if eqb b 10 then words_after s.kernel arena (frame_in tables s) otherwise arena

unfoldable pub said : Bool → Session → List ℕ → ℕ → List ℕ
said tables s arena b = if eqb b 10 then reply tables (answer_of tables s arena) (added_to s.kernel arena (frame_in tables s)) otherwise []

-- ---- bytes

-- the session after them
unfoldable pub after : Bool → Session → List ℕ → List ℕ → Session
after tables s arena [] = s
after tables s arena (b ∷ bs) = after tables (fed tables s arena b) (fed_arena tables s arena b) bs

-- the arena's words after them
unfoldable pub after_arena : Bool → Session → List ℕ → List ℕ → List ℕ
after_arena tables s arena [] = arena
after_arena tables s arena (b ∷ bs) = after_arena tables (fed tables s arena b) (fed_arena tables s arena b) bs

-- what is written meanwhile
unfoldable pub replies : Bool → Session → List ℕ → List ℕ → List ℕ
replies tables s arena [] = []
replies tables s arena (b ∷ bs) = said tables s arena b ++ replies tables (fed tables s arena b) (fed_arena tables s arena b) bs

-- playing those bytes does all that: the session, the arena's words, and the replies at the start of what is lent for them
pub record Plays (tables : Bool) (s : Session) (arena bytes arena' out out' : List ℕ) (p : Played) : Type 0 where
  pub session : p.session ≡ after tables s arena bytes
  pub words : arena' ≡ after_arena tables s arena bytes
  pub written : Writes out 0 (replies tables s arena bytes) out' p.len

-- ---- the whole input

-- a rest without a line feed is a line if it is not empty
abbrev pub rest : Session → List ℕ
rest s = if eqb s.line.len 0 then [] otherwise 10 ∷ []

-- all that a program prints: 4,096 words, the input, and what its end adds
unfoldable pub printed : Bool → List ℕ → List ℕ
printed tables input =
    let s = opened 4096 in
    let arena = init_words 1000 (replicate 4096 0) in
    let s' = after tables s arena input in
    replies tables s arena input ++ replies tables s' (after_arena tables s arena input) (rest s')
