-- How a text ends.
use Rattle.std.proofs.Common.{◌≡◌, ℕ, ◌+◌, ◌≤◌, true, false, List, [], ◌∷◌, length, reverse, Option, Some, None, Result, Ok, Err, refl, ap, sym, ◌∙◌, arith}
use Rattle.std.specs.Prelude.{is_some}
use Rattle.text_io.specs.declared.kinds.Version.{Version}
use Rattle.script_lexer.specs.Texts.{TextParts, text_seen, ending_seen, fault_seen}
use Rattle.script_lexer.specs.declared.places.LexFault.{LexFault}
use Rattle.script_lexer.specs.declared.places.LexFault.TheVariants.{BadByte, LineTooLong}
use Rattle.script_model.specs.Readers.{is_empty}
use Rattle.script_model.specs.Syntax.{Item, Script}
use Rattle.script_model.specs.Lexing.{Ending, Whole, Lexed, lexed}
use Rattle.script_model.specs.Reading.{Frame, Refusal, finished, refused_at}
use Rattle.script_syntax.proofs.Endings.{next_within}
use Rattle.script_syntax.specs.Parsing.{Answers, IsRefused, EndsSoon}
use Rattle.script_syntax.specs.declared.faults.ParseFault.{ParseFault}
use Rattle.script_syntax.specs.declared.faults.ParseFault.TheVariants.{Syntax, ScriptLimit, Memory}

pub ends_soon : (text : TextParts) → text_seen text ≡ lexed text.bytes → length text.bytes ≤ 16777216 → EndsSoon text
ends_soon text e short none =
    let w : ending_seen text.fault text.line_count ≡ Whole (text.line_count + 1) = ap (λ (fault : Option LexFault). ending_seen fault text.line_count) none in
    let f : (lexed text.bytes).ending ≡ Whole (text.line_count + 1) = sym (ap (λ (t : Lexed). t.ending) e) ∙ w in
    omega (arith, next_within text.bytes (text.line_count + 1) f)

pub finished_whole : (version : Version) (frames : List Frame) (items : List Item) (fault : Option LexFault) (count : ℕ) → is_empty frames ≡ true → is_some fault ≡ false
    → finished version frames items (ending_seen fault count) ≡ Ok (record { version = version; items = reverse items })
unfolding finished is_empty
finished_whole version [] items None count e f = refl
finished_whole version [] items (Some fault) count e f = cc
finished_whole version (g ∷ gs) items fault count e f = cc

open_in : (version : Version) (frames : List Frame) (items : List Item) (ending : Ending) → is_empty frames ≡ false → finished version frames items ending ≡ Err (refused_at ending)
unfolding finished is_empty
open_in version [] items ending e = cc
open_in version (g ∷ gs) items ending e = refl

fault_in : (version : Version) (frames : List Frame) (items : List Item) (fault : LexFault) → finished version frames items (fault_seen fault) ≡ Err (refused_at (fault_seen fault))
unfolding finished
fault_in version [] items (BadByte line column) = refl
fault_in version [] items (LineTooLong line) = refl
fault_in version (g ∷ gs) items (BadByte line column) = refl
fault_in version (g ∷ gs) items (LineTooLong line) = refl

pub refused : {A B : Type 0} (seen : A → B) (fault : ParseFault) (refusal : Refusal) (answer : Result B Refusal)
    → IsRefused fault refusal → answer ≡ Err refusal → Answers seen (Err fault) answer
refused seen (Syntax line column) refusal answer i e = e ∙ ap (λ (r : Refusal). Err r) i
refused seen (ScriptLimit kind line) refusal answer i e = e ∙ ap (λ (r : Refusal). Err r) i
refused seen Memory refusal answer i e = absurd i

pub finished_open : {A : Type 0} (seen : A → Script) (version : Version) (frames : List Frame) (items : List Item) (ending : Ending) (fault : ParseFault)
    → is_empty frames ≡ false → IsRefused fault (refused_at ending) → Answers seen (Err fault) (finished version frames items ending)
finished_open seen version frames items ending fault e i =
    refused seen fault (refused_at ending) (finished version frames items ending) i (open_in version frames items ending e)

pub finished_fault : {A : Type 0} (seen : A → Script) (version : Version) (frames : List Frame) (items : List Item) (fault : Option LexFault) (count : ℕ) (stop : ParseFault)
    → is_some fault ≡ true → IsRefused stop (refused_at (ending_seen fault count)) → Answers seen (Err stop) (finished version frames items (ending_seen fault count))
finished_fault seen version frames items None count stop e i = cc
finished_fault seen version frames items (Some fault) count stop e i =
    refused seen stop (refused_at (fault_seen fault)) (finished version frames items (fault_seen fault)) i (fault_in version frames items fault)
