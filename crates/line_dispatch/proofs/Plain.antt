-- A frame that asks for a call which writes nothing that it is lent: the call's answer is the frame's, and nothing else changes.
use Prim.Native.Nat.{ℕ}
use native.Mathlib.Omega.{arith}
use mathlib.Core.Path.{◌≡◌, ap, ◌∙◌, sym}
use mathlib.Core.List.{List}
use Rattle.std.specs.Prelude.{Some}
use Rattle.kernel.specs.declared.scheduler.Kernel.{Kernel}
use Rattle.kernel.specs.declared.scheduler.Answer.{Answer}
use Rattle.kernel.specs.Calls.{Call, step}
use Rattle.line_text.specs.declared.Text.{Text}
use Rattle.line_text.specs.Text.{Puts}
use Rattle.line_text.proofs.Writing.{nothing_put, put_as}
use Rattle.line_frame.specs.declared.Operation.{Operation}
use Rattle.line_frame.specs.declared.Frame.{Frame}
use Rattle.line_dispatch.specs.Dispatch.{call, request_of, answered, answer_to, words_of, words_after, added_by, added_to}

pub plain : (k : Kernel) (arena : List ℕ) (f : Frame) {out : Text} {r : Answer} {o : Operation} {c : Call} → f.operation ≡ o → request_of k.hz arena o f.k f.y ≡ call c → r ≡ step k c
    → (r ≡ answer_to k arena (Some f)) × (arena ≡ words_after k arena (Some f)) × Puts 1681 out (added_to k arena (Some f)) out
unfolding answer_to words_after added_to
plain k arena f {out} is asks e =
    let asked = ap (λ (x : Operation). request_of k.hz arena x f.k f.y) is ∙ asks in
    (e ∙ sym (ap (answered k arena) asked), sym (ap (words_of k arena) asked), put_as (nothing_put {most = 0} out) (sym (ap (added_by k arena) asked)) (omega arith))
