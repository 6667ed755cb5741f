-- The marks of handlers after some `ro` commands, name by name.
use Rattle.std.proofs.Common.{◌≡◌, ◌∙◌, refl, sym, ap, subst, ℕ, zero, suc, ◌+◌, ◌<◌, ◌≤◌, Bool, true, false, not, cond, ◌||◌, ◌==◌, List, [], ◌∷◌, ◌++◌, length, flat_map, fold, drop, get_or, slice_set, replicate, Option, Some, None, option_map, arith, true≢false}
use Rattle.std.specs.Prelude.{bytes_eq, is_some}
use Rattle.std.specs.List.{list_any}
use Rattle.std.proofs.lemmas.List.{drop_more, drop_all, get_or-set_same, get_or-set_other, length-set}
use Rattle.std.proofs.lemmas.Bool.{eqb-true, eqb-false}
use Rattle.std.proofs.lemmas.Slice.Eq.{bytes_eq-Decides}
use Rattle.script_model.specs.Syntax as model
use Rattle.script_model.specs.Scripts.{NamedBlock, handlers_in, number_in, handler_number}
use Rattle.script_syntax.specs.declared.commands.What.{What}
use Rattle.script_syntax.specs.declared.commands.What.TheVariants as what
use Rattle.script_syntax.specs.declared.commands.Body.{Body}
use Rattle.script_syntax.specs.declared.commands.Command.{Command}
use Rattle.script_syntax.specs.declared.operands.Condition.{Condition}
use Rattle.script_syntax.specs.Seen.{command_at, command_of, block_of}
use Rattle.loop_lint.specs.LoopHandlers.{lines_in, block_lines, item_lines, is_empty, is_unnamed, names_handler, naming_lines}
use Rattle.loop_lint.specs.Marks.{named_by, named_in, named_in_block, named_in_item, mark_at, mark, marked, AreMarked}

-- the names of a list, one entry after another ----------------------------------------------------------------------------------------------

fold_both : {A B : Type 0} (f : B → A → B) (b : B) (xs ys : List A) → fold f b (xs ++ ys) ≡ fold f (fold f b xs) ys
fold_both f b [] ys = refl
fold_both f b (x ∷ xs) ys = fold_both f (f b x) xs ys

module _ {A : Type 0} (items : List model.Item) (names : A → List (List ℕ)) (xs : List A) (first : List Bool) where
  abbrev pub IsMarkedTo : ℕ → List Bool → Type 0
  IsMarkedTo i now = marked items now (flat_map names (drop i xs)) ≡ marked items first (flat_map names xs)

  pub marked_on : (i : ℕ) (d : A) (now new : List Bool) → i < length xs → IsMarkedTo i now → new ≡ marked items now (names (get_or xs i d)) → IsMarkedTo (i + 1) new
  unfolding marked
  marked_on i d now new less so is =
      ap (λ marks. marked items marks (flat_map names (drop (i + 1) xs))) is
      ∙ sym (fold_both (mark items) now (names (get_or xs i d)) (flat_map names (drop (i + 1) xs)))
      ∙ ap (λ ys. marked items now (flat_map names ys)) (sym (drop_more xs i d less))
      ∙ so

  pub marked_all : (i : ℕ) (now : List Bool) → length xs ≤ i → IsMarkedTo i now → now ≡ marked items first (flat_map names xs)
  unfolding marked
  marked_all i now past so = ap (λ ys. marked items now (flat_map names ys)) (sym (drop_all i xs past)) ∙ so

-- commands ------------------------------------------------------------------------------------------------------------------------------------

pub block_names : (commands : List Command) → flat_map (λ command. named_in (command_of command)) commands ≡ named_in_block (block_of commands)
unfolding named_in
block_names [] = refl
block_names (command ∷ commands) = ap (λ others. named_in (command_of command) ++ others) (block_names commands)

pub simple_names : (line : ℕ) (action : model.Action) → named_by action ≡ named_in (model.Simple line action)
unfolding named_in
simple_names line action = refl

pub each_names : (line : ℕ) (command : What) (body : Body) → command ≡ what.Each body → named_in_block body.commands ≡ named_in (command_at line command)
unfolding named_in
each_names line command body is = ap (λ (it : What). named_in (command_at line it)) (sym is)

pub when_names : (line : ℕ) (command : What) (condition : Condition) (body : Body) → command ≡ what.When condition body →
    named_in_block body.commands ≡ named_in (command_at line command)
unfolding named_in
when_names line command condition body is = ap (λ (it : What). named_in (command_at line it)) (sym is)

-- a handler is named where a line names it ---------------------------------------------------------------------------------------------------

abbrev is_among : List ℕ → List (List ℕ) → Bool
is_among name names = list_any (λ other. bytes_eq other name) names

among_both : (name : List ℕ) (xs ys : List (List ℕ)) → is_among name (xs ++ ys) ≡ (is_among name xs || is_among name ys)
among_both name [] ys = refl
among_both name (x ∷ xs) ys = elim (bytes_eq x name) as (λ b. (b || is_among name (xs ++ ys)) ≡ ((b || is_among name xs) || is_among name ys)) [
  | true ↦ refl
  | false ↦ among_both name xs ys
]

filled_both : (xs ys : List ℕ) → not (is_empty (xs ++ ys)) ≡ (not (is_empty xs) || not (is_empty ys))
filled_both [] ys = refl
filled_both (x ∷ xs) ys = refl

both_same : (p q r s : Bool) → p ≡ r → q ≡ s → (p || q) ≡ (r || s)
both_same p q r s e f = ap (λ b. b || q) e ∙ ap (λ b. r || b) f

one_line : (line : ℕ) (b : Bool) → b ≡ not (is_empty (cond b (line ∷ []) []))
one_line line true = refl
one_line line false = refl

or_false : (b : Bool) → (b || false) ≡ b
or_false true = refl
or_false false = refl

by_action : (name : List ℕ) (action : model.Action) → is_among name (named_by action) ≡ names_handler name action
by_action name (model.MakeResizeObserver observer document (Some handler)) = or_false (bytes_eq handler name)
by_action name (model.MakeResizeObserver observer document None) = refl
by_action name (model.Viewport width height) = refl
by_action name (model.SetRatio hundredths) = refl
by_action name (model.MakeBlock it0 document) = refl
by_action name (model.MakeImage it0 document width height) = refl
by_action name (model.MakeFrame it0 document inside) = refl
by_action name (model.Append parent node) = refl
by_action name (model.Before parent node sibling) = refl
by_action name (model.Remove node) = refl
by_action name (model.SetStyle node declaration) = refl
by_action name (model.Grow node dimension by) = refl
by_action name (model.Load node width height) = refl
by_action name (model.ObserveResize observer node observed) = refl
by_action name (model.UnobserveResize observer node) = refl
by_action name (model.DisconnectResize observer) = refl
by_action name (model.MakeIntersectionObserver making) = refl
by_action name (model.ObserveIntersection observer node) = refl
by_action name (model.UnobserveIntersection observer node) = refl
by_action name (model.DisconnectIntersection observer) = refl
by_action name (model.TakeIntersections observer) = refl
by_action name (model.Listen aim event handler) = refl
by_action name (model.Unlisten aim event handler) = refl
by_action name (model.MakeQueryList it0 document query) = refl
by_action name (model.ScrollTo to left top) = refl
by_action name (model.ScrollBy to left top) = refl
by_action name (model.RequestFrame document key handler) = refl
by_action name (model.CancelFrame document key) = refl
by_action name (model.SetTimer document key delay handler) = refl
by_action name (model.ClearTimer document key) = refl
by_action name (model.Post document handler) = refl
by_action name (model.Say word) = refl
by_action name (model.Read to) = refl

mutual
  unfolding lines_in named_in

  in_command : (name : List ℕ) (command : model.Command) → is_among name (named_in command) ≡ not (is_empty (lines_in (names_handler name) command))
  in_command name (model.Simple line action) = by_action name action ∙ one_line line (names_handler name action)
  in_command name (model.Each line block end_line) = in_block name block
  in_command name (model.When line condition block end_line) = in_block name block

  in_block : (name : List ℕ) (block : model.Block) → is_among name (named_in_block block) ≡ not (is_empty (block_lines (names_handler name) block))
  in_block name model.NoMore = refl
  in_block name (model.Then command others) =
      among_both name (named_in command) (named_in_block others)
      ∙ both_same _ _ _ _ (in_command name command) (in_block name others)
      ∙ sym (filled_both (lines_in (names_handler name) command) (block_lines (names_handler name) others))

in_item : (name : List ℕ) (item : model.Item) → is_among name (named_in_item item) ≡ not (is_empty (item_lines (names_handler name) item))
in_item name (model.Outside command) = in_command name command
in_item name (model.Tick line time) = refl
in_item name (model.Handler line handler block end_line) = in_block name block

in_items : (name : List ℕ) (items : List model.Item) → is_among name (flat_map named_in_item items) ≡ not (is_empty (flat_map (item_lines (names_handler name)) items))
in_items name [] = refl
in_items name (item ∷ items) =
    among_both name (named_in_item item) (flat_map named_in_item items)
    ∙ both_same _ _ _ _ (in_item name item) (in_items name items)
    ∙ sym (filled_both (item_lines (names_handler name) item) (flat_map (item_lines (names_handler name)) items))

is_named : (name : List ℕ) (items : List model.Item) → is_among name (flat_map named_in_item items) ≡ not (is_unnamed items name)
unfolding naming_lines
is_named name items = in_items name items

-- marks by number -----------------------------------------------------------------------------------------------------------------------------

same_bytes : (xs ys : List ℕ) → bytes_eq xs ys ≡ true → xs ≡ ys
same_bytes xs ys e = (bytes_eq-Decides xs ys).0 e

-- a number is that of one name only
no_later : (found : Option ℕ) → option_map (λ (n : ℕ). n + 1) found ≡ Some 0 → ⊥
no_later None e = true≢false (sym (ap is_some e))
no_later (Some n) e = let no : n + 1 ≡ 0 = cc in omega arith

later_same : (one other : Option ℕ) (number : ℕ) → option_map (λ (n : ℕ). n + 1) one ≡ Some number → option_map (λ (n : ℕ). n + 1) other ≡ Some number
    → (found : ℕ) × (one ≡ Some found) × (other ≡ Some found)
later_same None other number e f = absurd (let no : None ≡ Some number = e in cc)
later_same (Some n) None number e f = absurd (let no : None ≡ Some number = f in cc)
later_same (Some n) (Some m) number e f =
    let one : n + 1 ≡ number = cc in
    let two : m + 1 ≡ number = cc in
    let same : m ≡ n = omega arith in
    (n, refl, ap Some same)

one_name : (hs : List NamedBlock) (a b : List ℕ) (number : ℕ) → number_in hs a ≡ Some number → number_in hs b ≡ Some number → a ≡ b
unfolding number_in
one_name [] a b number e f = absurd (let no : None ≡ Some number = e in cc)
one_name (h ∷ hs) a b number e f = cases (one_name hs a b) (bytes_eq a h.name) (bytes_eq b h.name) refl refl e f
  where
    later : List ℕ → Option ℕ
    later x = option_map (λ (n : ℕ). n + 1) (number_in hs x)

    cases : ((k : ℕ) → number_in hs a ≡ Some k → number_in hs b ≡ Some k → a ≡ b) → (p q : Bool) → bytes_eq a h.name ≡ p → bytes_eq b h.name ≡ q → cond p (Some 0) (later a) ≡ Some number → cond q (Some 0) (later b) ≡ Some number → a ≡ b
    cases same true true pe qe e f = same_bytes a h.name pe ∙ sym (same_bytes b h.name qe)
    cases same true false pe qe e f = absurd (no_later (number_in hs b) (f ∙ sym e))
    cases same false true pe qe e f = absurd (no_later (number_in hs a) (e ∙ sym f))
    cases same false false pe qe e f = let found = later_same (number_in hs a) (number_in hs b) number e f in same (found.0) (found.1) (found.2)

same_name : (items : List model.Item) (a b : List ℕ) (number : ℕ) → handler_number items a ≡ Some number → handler_number items b ≡ Some number → a ≡ b
unfolding handler_number
same_name items a b number e f = one_name (handlers_in items) a b number e f

-- one more name: of the marks only that of its number changes
module _ (items : List model.Item) (name : List ℕ) (number : ℕ) (is : handler_number items name ≡ Some number) where
  other_or_not : (other : List ℕ) (found : Option ℕ) (b : Bool) → bytes_eq other name ≡ b → handler_number items other ≡ found → (¬ found ≡ Some number) → b ≡ false
  other_or_not other found true e f apart = absurd (apart (sym f ∙ ap (handler_number items) (same_bytes other name e) ∙ is))
  other_or_not other found false e f apart = refl

  step_at : (marks : List Bool) (other : List ℕ) (found : Option ℕ) → handler_number items other ≡ found → number < length marks
      → get_or (mark_at marks found) number false ≡ (get_or marks number false || bytes_eq other name)
  step_at marks other None e within =
      let no : ¬ None ≡ Some number = λ h. let wrong : None ≡ Some number = h in cc in
      sym (ap (λ b. get_or marks number false || b) (other_or_not other None (bytes_eq other name) refl e no) ∙ or_false (get_or marks number false))
  step_at marks other (Some m) e within = by_place (m == number) refl
    where
      or_true : (b : Bool) → (b || true) ≡ true
      or_true true = refl
      or_true false = refl

      by_place : (b : Bool) → m == number ≡ b → get_or (slice_set marks m true) number false ≡ (get_or marks number false || bytes_eq other name)
      by_place true f =
          let here : m ≡ number = eqb-true m number f in
          let same = same_name items other name number (e ∙ ap Some here) is in
          ap (λ k. get_or (slice_set marks k true) number false) here
          ∙ get_or-set_same marks number true false within
          ∙ sym (ap (λ b. get_or marks number false || b) (ap (λ xs. bytes_eq xs name) same ∙ (bytes_eq-Decides name name).1 refl) ∙ or_true (get_or marks number false))
      by_place false f =
          let apart : ¬ Some m ≡ Some number = λ h. (let same : m ≡ number = cc in eqb-false m number f same) in
          get_or-set_other marks m number true false (λ h. eqb-false m number f (sym h))
          ∙ sym (ap (λ b. get_or marks number false || b) (other_or_not other (Some m) (bytes_eq other name) refl e apart) ∙ or_false (get_or marks number false))

  length_at : (marks : List Bool) (found : Option ℕ) → length (mark_at marks found) ≡ length marks
  length_at marks None = refl
  length_at marks (Some m) = length-set marks m true

  or_assoc : (a b c : Bool) → ((a || b) || c) ≡ (a || (b || c))
  or_assoc true b c = refl
  or_assoc false b c = refl

  marks_are : (marks : List Bool) (names : List (List ℕ)) → number < length marks
      → get_or (marked items marks names) number false ≡ (get_or marks number false || is_among name names)
  unfolding marked
  marks_are marks [] within = sym (or_false (get_or marks number false))
  marks_are marks (other ∷ names) within =
      let size = length_at marks (handler_number items other) in
      marks_are (mark items marks other) names (subst (λ n. number < n) (sym size) within)
      ∙ ap (λ b. b || is_among name names) (step_at marks other (handler_number items other) refl within)
      ∙ or_assoc (get_or marks number false) (bytes_eq other name) (is_among name names)

pub length_marked : (items : List model.Item) (marks : List Bool) (names : List (List ℕ)) → length (marked items marks names) ≡ length marks
unfolding marked
length_marked items marks [] = refl
length_marked items marks (name ∷ names) = length_marked items (mark items marks name) names ∙ size marks (handler_number items name)
  where
    size : (marks : List Bool) (found : Option ℕ) → length (mark_at marks found) ≡ length marks
    size marks None = refl
    size marks (Some m) = length-set marks m true

no_mark : (count number : ℕ) → get_or (replicate count false) number false ≡ false
no_mark zero number = refl
no_mark (suc count) zero = refl
no_mark (suc count) (suc number) = no_mark count number

pub all_marked : (items : List model.Item) (count : ℕ) (marks : List Bool) → marks ≡ marked items (replicate count false) (flat_map named_in_item items) → AreMarked items marks
all_marked items count marks is = λ name number e within.
    let size : length marks ≡ length (replicate count false) = ap length is ∙ length_marked items (replicate count false) (flat_map named_in_item items) in
    ap (λ it. get_or it number false) is
    ∙ marks_are items name number e (replicate count false) (flat_map named_in_item items) (subst (λ n. number < n) size within)
    ∙ ap (λ b. b || is_among name (flat_map named_in_item items)) (no_mark count number)
    ∙ is_named name items
