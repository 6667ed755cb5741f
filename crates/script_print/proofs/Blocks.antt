-- Lines appended one after the other, each on its own number.
use Rattle.std.proofs.Common.{◌≡◌, ℕ, suc, ◌+◌, ◌-◌, ◌<◌, ◌≤◌, List, [], ◌∷◌, ◌++◌, length, drop, get_or, map, refl, ap, sym, ◌∙◌, append_assoc, append-nil, arith}
use Rattle.std.proofs.lemmas.List.{drop_more, drop_all}
use Rattle.std.specs.Prelude.{codes, replicate}
use Rattle.media_queries.proofs.Appends.{two_parts, three_parts}
use Rattle.word_model.specs.Numbers.{decimal}
use Rattle.text_io.specs.Kinds.{version_word}
use Rattle.text_io.specs.declared.kinds.Version.{Version}
use Rattle.script_model.specs.Syntax.{Action, Condition, Simple, Each, When, Block, Item as ItemModel, Tick, Handler}
use Rattle.script_syntax.specs.Seen.{command_of, block_of, item_of}
use Rattle.script_syntax.specs.declared.commands.Command.{Command}
use Rattle.script_syntax.specs.declared.commands.Item.{Item}
use Rattle.script_text.specs.Phrases.{action_words, condition_words}
use Rattle.script_text.specs.NumberedLines.{NumberedLine, numbered, end_line, command_lines, block_lines, item_lines, items_lines}
use Rattle.script_text.specs.ScriptText.{line_text, lines_text, script_text}
use Rattle.script_print.specs.LastNumber.{last_number}

lines_both : (n : ℕ) (xs ys : List NumberedLine) → lines_text n (xs ++ ys) ≡ lines_text n xs ++ lines_text (last_number n xs) ys
unfolding lines_text last_number
lines_both n [] ys = refl
lines_both n (x ∷ xs) ys =
    let feeds : List ℕ = replicate (x.number - n) 10 in
    let behind : List ℕ = lines_text (last_number x.number xs) ys in
    ap (λ l. feeds ++ (line_text x.words ++ l)) (lines_both x.number xs ys)
    ∙ ap (λ l. feeds ++ l) (sym (append_assoc (line_text x.words) (lines_text x.number xs) behind))
    ∙ sym (append_assoc feeds (line_text x.words ++ lines_text x.number xs) behind)

last_both : (n : ℕ) (xs ys : List NumberedLine) → last_number n (xs ++ ys) ≡ last_number (last_number n xs) ys
unfolding last_number
last_both n [] ys = refl
last_both n (x ∷ xs) ys = last_both x.number xs ys

-- a line, and what stands behind it
pub line_pushed : (after line : ℕ) (words : List (List ℕ)) (lines : List NumberedLine) (old one two new : List ℕ)
    → one ≡ old ++ replicate (line - after) 10 → two ≡ one ++ line_text words → new ≡ two ++ lines_text line lines
    → new ≡ old ++ lines_text after (numbered line words ∷ lines)
unfolding lines_text
line_pushed after line words lines old one two new e f g =
    three_parts old (replicate (line - after) 10) (line_text words) (lines_text line lines) one two new e f g

none_behind : (line : ℕ) (new : List ℕ) → new ≡ new ++ lines_text line []
unfolding lines_text
none_behind line new = sym (append-nil new)

pub one_line : (after line : ℕ) (words : List (List ℕ)) (old one new : List ℕ) → one ≡ old ++ replicate (line - after) 10 → new ≡ one ++ line_text words
    → new ≡ old ++ lines_text after (numbered line words ∷ [])
one_line after line words old one new e f = line_pushed after line words [] old one new new e f (none_behind line new)

one_word : (word : List ℕ) → line_text (word ∷ []) ≡ word
unfolding line_text
one_word word = refl

pub end_pushed : (after line : ℕ) (old one new : List ℕ) → one ≡ old ++ replicate (line - after) 10 → new ≡ one ++ codes "end"
    → new ≡ old ++ lines_text after (end_line line ∷ [])
unfolding line_text
end_pushed after line old one new e f = one_line after line (codes "end" ∷ []) old one new e f

pub lines_pushed : (after next : ℕ) (first second : List NumberedLine) (old middle new : List ℕ) → middle ≡ old ++ lines_text after first
    → next ≡ last_number after first → new ≡ middle ++ lines_text next second → new ≡ old ++ lines_text after (first ++ second)
lines_pushed after next first second old middle new e n f =
    two_parts old (lines_text after first) (lines_text (last_number after first) second) middle new e (f ∙ ap (λ m. middle ++ lines_text m second) n)
    ∙ ap (λ l. old ++ l) (sym (lines_both after first second))

-- Commands.

pub simple_pushed : (after line : ℕ) (action : Action) (old one new : List ℕ) → one ≡ old ++ replicate (line - after) 10
    → new ≡ one ++ line_text (action_words action) → new ≡ old ++ lines_text after (command_lines (Simple line action))
unfolding command_lines
simple_pushed after line action old one new e f = one_line after line (action_words action) old one new e f

pub each_pushed : (after line last : ℕ) (block : Block) (old one two new : List ℕ) → one ≡ old ++ replicate (line - after) 10
    → two ≡ one ++ codes "each" → new ≡ two ++ lines_text line (block_lines block ++ (end_line last ∷ []))
    → new ≡ old ++ lines_text after (command_lines (Each line block last))
unfolding command_lines line_text
each_pushed after line last block old one two new e f g =
    line_pushed after line (codes "each" ∷ []) (block_lines block ++ (end_line last ∷ [])) old one two new e f g

pub when_pushed : (after line last : ℕ) (condition : Condition) (block : Block) (old one two new : List ℕ) → one ≡ old ++ replicate (line - after) 10
    → two ≡ one ++ line_text (codes "when" ∷ condition_words condition) → new ≡ two ++ lines_text line (block_lines block ++ (end_line last ∷ []))
    → new ≡ old ++ lines_text after (command_lines (When line condition block last))
unfolding command_lines
when_pushed after line last condition block old one two new e f g =
    line_pushed after line (codes "when" ∷ condition_words condition) (block_lines block ++ (end_line last ∷ [])) old one two new e f g

pub simple_last : (after line : ℕ) (action : Action) → line ≡ last_number after (command_lines (Simple line action))
unfolding command_lines last_number
simple_last after line action = refl

end_last : (after last : ℕ) (lines : List NumberedLine) → last ≡ last_number after (lines ++ (end_line last ∷ []))
unfolding last_number
end_last after last lines = sym (last_both after lines (end_line last ∷ []))

pub each_last : (after line last : ℕ) (block : Block) → last ≡ last_number after (command_lines (Each line block last))
unfolding command_lines last_number
each_last after line last block = end_last line last (block_lines block)

pub when_last : (after line last : ℕ) (condition : Condition) (block : Block) → last ≡ last_number after (command_lines (When line condition block last))
unfolding command_lines last_number
when_last after line last condition block = end_last line last (block_lines block)

-- Items.

pub tick_pushed : (after line time : ℕ) (old one new : List ℕ) → one ≡ old ++ replicate (line - after) 10
    → new ≡ one ++ line_text (codes "tick" ∷ decimal time ∷ []) → new ≡ old ++ lines_text after (item_lines (Tick line time))
unfolding item_lines
tick_pushed after line time old one new e f = one_line after line (codes "tick" ∷ decimal time ∷ []) old one new e f

pub handler_pushed : (after line next last : ℕ) (name : List ℕ) (block : Block) (old one two three new : List ℕ) → one ≡ old ++ replicate (line - after) 10
    → two ≡ one ++ line_text (codes "handler" ∷ name ∷ []) → three ≡ two ++ lines_text line (block_lines block)
    → next ≡ last_number line (block_lines block) → new ≡ three ++ lines_text next (end_line last ∷ [])
    → new ≡ old ++ lines_text after (item_lines (Handler line name block last))
unfolding item_lines
handler_pushed after line next last name block old one two three new e f g n h =
    line_pushed after line (codes "handler" ∷ name ∷ []) (block_lines block ++ (end_line last ∷ [])) old one two new e f
    (lines_pushed line next (block_lines block) (end_line last ∷ []) two three new g n h)

pub tick_last : (after line time : ℕ) → line ≡ last_number after (item_lines (Tick line time))
unfolding item_lines last_number
tick_last after line time = refl

pub handler_last : (after line last : ℕ) (name : List ℕ) (block : Block) → last ≡ last_number after (item_lines (Handler line name block last))
unfolding item_lines last_number
handler_last after line last name block = end_last line last (block_lines block)

-- The loops over commands and over items, a step at a time: what is there and what is still to come make the whole.

abbrev pub lines_of : {A : Type 0} → (A → List NumberedLine) → List A → List NumberedLine
lines_of seen [] = []
lines_of seen (x ∷ xs) = seen x ++ lines_of seen xs

pub lines_on : {A : Type 0} → (seen : A → List NumberedLine) (xs : List A) (i : ℕ) (d : A) (last next : ℕ) (out new whole : List ℕ) → i < length xs
    → out ++ lines_text last (lines_of seen (drop i xs)) ≡ whole → new ≡ out ++ lines_text last (seen (get_or xs i d))
    → next ≡ last_number last (seen (get_or xs i d)) → new ++ lines_text next (lines_of seen (drop (i + 1) xs)) ≡ whole
lines_on seen xs i d last next out new whole within so e n =
    let others : List NumberedLine = lines_of seen (drop (i + 1) xs) in
    lines_pushed last next (seen (get_or xs i d)) others out new (new ++ lines_text next others) e n refl
    ∙ ap (λ ys. out ++ lines_text last (lines_of seen ys)) (sym (drop_more xs i d within)) ∙ so

pub last_on : {A : Type 0} → (seen : A → List NumberedLine) (xs : List A) (i : ℕ) (d : A) (last next whole : ℕ) → i < length xs
    → last_number last (lines_of seen (drop i xs)) ≡ whole → next ≡ last_number last (seen (get_or xs i d))
    → last_number next (lines_of seen (drop (i + 1) xs)) ≡ whole
last_on seen xs i d last next whole within so n =
    let others : List NumberedLine = lines_of seen (drop (i + 1) xs) in
    ap (λ m. last_number m others) n ∙ sym (last_both last (seen (get_or xs i d)) others)
    ∙ ap (λ ys. last_number last (lines_of seen ys)) (sym (drop_more xs i d within)) ∙ so

no_lines : (n : ℕ) → lines_text n [] ≡ []
unfolding lines_text
no_lines n = refl

no_last : (n : ℕ) → last_number n [] ≡ n
unfolding last_number
no_last n = refl

pub lines_end : {A : Type 0} → (seen : A → List NumberedLine) (xs : List A) (i last : ℕ) (out whole : List ℕ) → length xs ≤ i
    → out ++ lines_text last (lines_of seen (drop i xs)) ≡ whole → out ≡ whole
lines_end seen xs i last out whole all so =
    sym (append-nil out) ∙ ap (λ l. out ++ l) (sym (no_lines last)) ∙ ap (λ ys. out ++ lines_text last (lines_of seen ys)) (sym (drop_all i xs all)) ∙ so

pub last_end : {A : Type 0} → (seen : A → List NumberedLine) (xs : List A) (i last whole : ℕ) → length xs ≤ i
    → last_number last (lines_of seen (drop i xs)) ≡ whole → last ≡ whole
last_end seen xs i last whole all so =
    sym (no_last last) ∙ ap (λ ys. last_number last (lines_of seen ys)) (sym (drop_all i xs all)) ∙ so

pub blocks_are : (commands : List Command) → lines_of (λ command. command_lines (command_of command)) commands ≡ block_lines (block_of commands)
unfolding block_lines
blocks_are [] = refl
blocks_are (c ∷ cs) = ap (λ l. command_lines (command_of c) ++ l) (blocks_are cs)

pub items_are : (items : List Item) → lines_of (λ item. item_lines (item_of item)) items ≡ items_lines (map item_of items)
unfolding items_lines
items_are [] = refl
items_are (x ∷ xs) = ap (λ l. item_lines (item_of x) ++ l) (items_are xs)

pub script_pushed : (version : Version) (items : List ItemModel) (old one two new : List ℕ) → one ≡ old ++ codes "script " → two ≡ one ++ version_word version
    → new ≡ two ++ lines_text 1 (items_lines items) → new ≡ old ++ script_text (record { version = version; items = items })
unfolding script_text
script_pushed version items old one two new e f g =
    three_parts old (codes "script ") (version_word version) (lines_text 1 (items_lines items)) one two new e f g

-- line feeds, one at a time
pub feeds_on : (out new whole : List ℕ) (i to : ℕ) → i < to → out ++ replicate (to - i) 10 ≡ whole → new ≡ out ++ (10 ∷ [])
    → new ++ replicate (to - (i + 1)) 10 ≡ whole
feeds_on out new whole i to within so e =
    let less : to - i ≡ suc (to - (i + 1)) = omega arith in
    ap (λ l. l ++ replicate (to - (i + 1)) 10) e ∙ append_assoc out (10 ∷ []) (replicate (to - (i + 1)) 10)
    ∙ ap (λ n. out ++ replicate n 10) (sym less) ∙ so

pub feeds_end : (out whole : List ℕ) (i to : ℕ) → to ≤ i → out ++ replicate (to - i) 10 ≡ whole → out ≡ whole
feeds_end out whole i to past so =
    let none : to - i ≡ 0 = omega arith in
    sym (append-nil out) ∙ ap (λ n. out ++ replicate n 10) (sym none) ∙ so
