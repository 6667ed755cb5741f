-- What is open, read from its end, and what a closed block holds.
use Rattle.std.specs.List.{All}
use Rattle.std.proofs.lemmas.List.{map-append, reverse-append}
use Rattle.std.proofs.lemmas.List.Elements.{All-push, All-nil}
use Rattle.std.proofs.Common.{◌≡◌, ℕ, ◌+◌, false, List, [], ◌∷◌, ◌++◌, map, reverse, refl, sym, ap, subst, ◌∙◌, cond, count_by}
use Rattle.std.proofs.lemmas.List.Sums.{sum_by-cons}
use Rattle.script_model.specs.Reading as model
use Rattle.script_model.specs.Reading.{block_before}
use Rattle.script_model.specs.Readers.{is_empty}
use Rattle.script_model.specs.Syntax as syntax
use Rattle.script_model.specs.Syntax.{NoMore, Then, Block}
use Rattle.script_syntax.proofs.Reversed.{count_reversed, reversed}
use Rattle.script_syntax.specs.Allowed.{IsAllowed, ItemAllowed}
use Rattle.script_syntax.specs.Frames.{frame_of, opening_of, OpeningAllowed, FrameAllowed}
use Rattle.script_syntax.specs.Seen.{block_of, command_of}
use Rattle.script_syntax.specs.declared.commands.Command.{Command}
use Rattle.script_syntax.specs.declared.commands.Item.{Item}
use Rattle.script_syntax.specs.declared.frames.Frame.{Frame}

empty_last : {A : Type 0} (xs : List A) (x : A) → is_empty (xs ++ (x ∷ [])) ≡ false
unfolding is_empty
empty_last [] x = refl
empty_last (y ∷ ys) x = refl

abbrev frames_of : List Frame → List model.Frame
frames_of held = reverse (map frame_of held)

pub outside_is : (held : List Frame) → is_empty (frames_of held) ≡ is_empty held
unfolding is_empty
outside_is [] = refl
outside_is (o ∷ os) = ap is_empty (reversed (frame_of o) (map frame_of os)) ∙ empty_last (frames_of os) (frame_of o)

counted : (held : List Frame) → count_by (λ frame. model.is_block frame.opening) (map frame_of held) ≡ count_by (λ o. model.is_block (opening_of o.opening)) held
counted [] = refl
counted (o ∷ os) =
    sum_by-cons (λ (frame : model.Frame). cond (model.is_block frame.opening) 1 0) (frame_of o) (map frame_of os)
    ∙ ap (λ (n : ℕ). cond (model.is_block (opening_of o.opening)) 1 0 + n) (counted os)
    ∙ sym (sum_by-cons (λ (f : Frame). cond (model.is_block (opening_of f.opening)) 1 0) o os)

pub blocks_counted : (held : List Frame) → count_by (λ frame. model.is_block frame.opening) (frames_of held) ≡ count_by (λ o. model.is_block (opening_of o.opening)) held
blocks_counted held = count_reversed (λ (frame : model.Frame). model.is_block frame.opening) (map frame_of held) ∙ counted held

joined : (front back : List syntax.Command) (others : Block) → block_before (front ++ back) others ≡ block_before back (block_before front others)
unfolding block_before
joined [] back others = refl
joined (c ∷ cs) back others = joined cs back (Then c others)

pub block_closed : (commands : List Command) → block_before (reverse (map command_of commands)) NoMore ≡ block_of commands
unfolding block_before
block_closed [] = refl
block_closed (c ∷ cs) =
    ap (λ (front : List syntax.Command). block_before front NoMore) (reversed (command_of c) (map command_of cs))
    ∙ joined (reverse (map command_of cs)) (command_of c ∷ []) NoMore
    ∙ ap (λ (block : Block). Then (command_of c) block) (block_closed cs)

pub frame_pushed : (frames : List Frame) (frame : Frame) → All FrameAllowed frames → OpeningAllowed frame.opening → All IsAllowed frame.commands.items → All FrameAllowed (frames ++ (frame ∷ []))
frame_pushed frames frame all o c = All-push FrameAllowed frames frame all (o, c)

pub frame_opened : (frames : List Frame) (frame : Frame) → All FrameAllowed frames → OpeningAllowed frame.opening → frame.commands.items ≡ [] → All FrameAllowed (frames ++ (frame ∷ []))
frame_opened frames frame all o e = All-push FrameAllowed frames frame all (o, subst (All IsAllowed) (sym e) (All-nil IsAllowed))

pub command_pushed : (commands : List Command) (command : Command) → All IsAllowed commands → IsAllowed command → All IsAllowed (commands ++ (command ∷ []))
command_pushed commands command all a = All-push IsAllowed commands command all a

pub item_pushed : (items : List Item) (item : Item) → All ItemAllowed items → ItemAllowed item → All ItemAllowed (items ++ (item ∷ []))
item_pushed items item all a = All-push ItemAllowed items item all a

-- the innermost of what is open stands last
pub close_is : (frames front : List Frame) (frame : Frame) (end_line : ℕ) (s : model.State) → frames ≡ front ++ (frame ∷ [])
    → model.close_in (frames_of frames) end_line s ≡ model.closed (opening_of frame.opening) frame.line (block_of frame.commands.items) end_line (record s { frames = frames_of front })
unfolding model.close_in
close_is frames front frame end_line s e =
    ap (λ (held : List model.Frame). model.close_in held end_line s)
    (ap frames_of e ∙ ap reverse (map-append frame_of front (frame ∷ [])) ∙ reverse-append (map frame_of front) (frame_of frame ∷ []))
    ∙ ap (λ (block : Block). model.closed (opening_of frame.opening) frame.line block end_line (record s { frames = frames_of front })) (block_closed frame.commands.items)
