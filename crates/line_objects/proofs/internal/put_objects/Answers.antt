-- The three kinds, with a bar between them.
use Rattle.std.proofs.Common.{◌≡◌, length, arith, rules}
use Rattle.kernel.specs.Kernel.{mutex, semaphore, event}
use Rattle.line_text.specs.Text.{Puts}
use Rattle.line_text.proofs.Writing.{◌⨾◌, put_within, put_as}
use Rattle.line_objects.specs.ObjectsLine.{objects_text, mutex_text, semaphore_text, event_text}
use Rattle.line_objects.proofs.Joined.{joined_items}
use Rattle.line_objects.proofs.internal.put_objects.Goals as goal

pub returns : goal.returns
returns c =
    let k = c.args.k in
    let mutexes : length k.mutexes ≡ 4 = search rules in
    let semaphores : length k.semaphores ≡ 4 = search rules in
    let events : length k.events ≡ 4 = search rules in
    let first : Puts 864 _ (objects_text (λ i. mutex_text (mutex k i))) _ = put_as c.put_each.ensures (joined_items 32 mutex_text k.mutexes _ 4 mutexes) (omega arith) in
    let second : Puts 772 _ (objects_text (λ i. semaphore_text (semaphore k i))) _ = put_as c.put_each-2.ensures (joined_items 32 semaphore_text k.semaphores _ 4 semaphores) (omega arith) in
    let third : Puts 696 _ (objects_text (λ i. event_text (event k i))) _ = put_as c.put_each-3.ensures (joined_items 32 event_text k.events _ 4 events) (omega arith) in
    put_within (first ⨾ c.put_text.ensures ⨾ second ⨾ c.put_text-2.ensures ⨾ third) (omega arith)
