-- A search through a list for the first line of all that its entries give, and through the commands of a block.
use Rattle.std.proofs.Common.{◌≡◌, refl, sym, ap, ◌∙◌, ◌≤◌, ◌<◌, get_or, drop, true≢false}
use Rattle.std.proofs.lemmas.List.{drop_more, drop_all}
use Rattle.std.proofs.lemmas.List.Folds.{flat_map-map}
use Rattle.std.specs.Prelude.{ℕ, ◌+◌, Bool, true, false, not, cond, List, [], ◌∷◌, ◌++◌, map, flat_map, length, slice_get, Option, Some, None, is_some, is_none, IsNone, IsTrue, ◌↔◌}
use Rattle.std.specs.Bool.{then_some}
use Rattle.script_model.specs.Syntax as model
use Rattle.script_model.specs.Scripts.{NamedBlock, handlers_in}
use Rattle.script_syntax.specs.declared.commands.What.{What}
use Rattle.script_syntax.specs.declared.commands.What.TheVariants as what
use Rattle.script_syntax.specs.declared.commands.Body.{Body}
use Rattle.script_syntax.specs.declared.commands.Command.{Command}
use Rattle.script_syntax.specs.declared.commands.Item.{Item}
use Rattle.script_syntax.specs.declared.operands.Condition.{Condition}
use Rattle.script_syntax.specs.Seen.{command_at, command_of, block_of, item_of}
use Rattle.loop_lint.specs.LoopHandlers.{lines_in, block_lines, item_lines, is_empty, is_unnamed, names_handler, naming_lines, loop_handler_lines}
use Rattle.loop_lint.specs.declared.kinds.Verdict.{Verdict}
use Rattle.loop_lint.specs.Searches.{lines_at}

-- the first of a list ---------------------------------------------------------------------------------------------------------------------

first-behind : (xs ys : List ℕ) → slice_get xs 0 ≡ None → slice_get (xs ++ ys) 0 ≡ slice_get ys 0
first-behind [] ys none = refl
first-behind (x ∷ xs) ys none = absurd (let no : Some x ≡ None = none in cc)

first-here : (xs ys : List ℕ) (found : ℕ) → slice_get xs 0 ≡ Some found → slice_get (xs ++ ys) 0 ≡ Some found
first-here [] ys found is = absurd (let no : None ≡ Some found = is in cc)
first-here (x ∷ xs) ys found is = is

pub empty-first : (xs : List ℕ) → is_empty xs ≡ is_none (slice_get xs 0)
empty-first [] = refl
empty-first (x ∷ xs) = refl

-- a loop over a list whose entries give lines
module _ {A : Type 0} (lines : A → List ℕ) (xs : List A) where
  abbrev pub IsSearched : ℕ → Type 0
  IsSearched i = slice_get (flat_map lines (drop i xs)) 0 ≡ slice_get (flat_map lines xs) 0

  step : (i : ℕ) (d : A) → i < length xs → slice_get (flat_map lines (drop i xs)) 0 ≡ slice_get (lines (get_or xs i d) ++ flat_map lines (drop (i + 1) xs)) 0
  step i d less = ap (λ (ys : List A). slice_get (flat_map lines ys) 0) (drop_more xs i d less)

  pub searched-on : (i : ℕ) (d : A) → i < length xs → IsSearched i → slice_get (lines (get_or xs i d)) 0 ≡ None → IsSearched (i + 1)
  searched-on i d less so none = sym (first-behind (lines (get_or xs i d)) _ none) ∙ sym (step i d less) ∙ so

  pub searched-found : (i : ℕ) (d : A) (found : Option ℕ) → i < length xs → IsSearched i → found ≡ slice_get (lines (get_or xs i d)) 0 → is_some found ≡ true →
      found ≡ slice_get (flat_map lines xs) 0
  searched-found i d None less so is some = absurd (true≢false (sym some))
  searched-found i d (Some line) less so is some = sym (first-here (lines (get_or xs i d)) _ line (sym is)) ∙ sym (step i d less) ∙ so

  pub searched-all : (i : ℕ) → length xs ≤ i → IsSearched i → None ≡ slice_get (flat_map lines xs) 0
  searched-all i past so = ap (λ (ys : List A). slice_get (flat_map lines ys) 0) (sym (drop_all i xs past)) ∙ so

pub not-found : (found : Option ℕ) → is_some found ≡ false → found ≡ None
not-found None none = refl
not-found (Some line) none = absurd (true≢false none)

-- commands ------------------------------------------------------------------------------------------------------------------------------------

module _ (test : model.Action → Bool) where
  pub block-lines : (commands : List Command) → flat_map (λ command. lines_in test (command_of command)) commands ≡ block_lines test (block_of commands)
  unfolding block_lines
  block-lines [] = refl
  block-lines (command ∷ commands) = ap (λ (others : List ℕ). lines_in test (command_of command) ++ others) (block-lines commands)

  pub each-lines : (line : ℕ) (command : What) (body : Body) → command ≡ what.Each body → block_lines test body.commands ≡ lines_in test (command_at line command)
  unfolding lines_in
  each-lines line command body is = ap (λ (it : What). lines_in test (command_at line it)) (sym is)

  pub when-lines : (line : ℕ) (command : What) (condition : Condition) (body : Body) → command ≡ what.When condition body →
      block_lines test body.commands ≡ lines_in test (command_at line command)
  unfolding lines_in
  when-lines line command condition body is = ap (λ (it : What). lines_in test (command_at line it)) (sym is)

  of-test : (line : ℕ) (sought : Bool) → then_some sought line ≡ slice_get (cond sought (line ∷ []) []) 0
  of-test line true = refl
  of-test line false = refl

  pub simple-first : (line : ℕ) (action : model.Action) (sought : Bool) → sought ≡ test action →
      then_some sought line ≡ slice_get (lines_in test (model.Simple line action)) 0
  unfolding lines_in
  simple-first line action sought is = of-test line sought ∙ ap (λ (it : Bool). slice_get (cond it (line ∷ []) []) 0) is

-- items ---------------------------------------------------------------------------------------------------------------------------------------

handler-lines : (test : model.Action → Bool) (all items : List model.Item) → flat_map (lines_at test all) items
    ≡ flat_map (λ (handler : NamedBlock). cond (is_unnamed all (handler.name)) [] (block_lines test (handler.block))) (handlers_in items)
unfolding handlers_in
handler-lines test all [] = refl
handler-lines test all (model.Outside command ∷ items) = handler-lines test all items
handler-lines test all (model.Tick line time ∷ items) = handler-lines test all items
handler-lines test all (model.Handler line name block end_line ∷ items) =
    ap (λ (others : List ℕ). cond (is_unnamed all name) [] (block_lines test block) ++ others) (handler-lines test all items)

pub whole-lines : (test : model.Action → Bool) (items : List Item) (all : List model.Item) → map item_of items ≡ all →
    flat_map (λ item. lines_at test all (item_of item)) items ≡ loop_handler_lines test all
unfolding loop_handler_lines
whole-lines test items all is =
    sym (flat_map-map (lines_at test all) item_of items) ∙ ap (flat_map (lines_at test all)) is ∙ handler-lines test all all

pub unnamed-lines : (name : List ℕ) (items : List Item) → is_none (slice_get (flat_map (λ item. item_lines (names_handler name) (item_of item)) items) 0)
    ≡ is_unnamed (map item_of items) name
unfolding naming_lines
unnamed-lines name items =
    sym (empty-first (flat_map (λ item. item_lines (names_handler name) (item_of item)) items))
    ∙ ap is_empty (sym (flat_map-map (item_lines (names_handler name)) item_of items))

-- answers -------------------------------------------------------------------------------------------------------------------------------------

pub some-named : (found : Option ℕ) (lines : List ℕ) → found ≡ slice_get lines 0 → is_some found ≡ true → false ≡ is_none (slice_get lines 0)
some-named None lines is some = absurd (true≢false (sym some))
some-named (Some line) lines is some = ap is_none is

pub none-means : (found : Option ℕ) (lines : List ℕ) → found ≡ slice_get lines 0 → IsNone found ↔ IsTrue (is_empty lines)
none-means found [] is = ((λ none. refl), (λ empty. ap is_some is))
none-means found (x ∷ xs) is = ((λ none. absurd (true≢false (sym (ap is_some is) ∙ none))), (λ empty. absurd (true≢false (sym empty))))

abbrev verdict_of : Bool → Bool → Verdict
verdict_of steady quiet = record { steady = steady; quiet = quiet }

pub same-verdict : (steady quiet steady' quiet' : Bool) → steady ≡ steady' → quiet ≡ quiet' → verdict_of steady quiet ≡ verdict_of steady' quiet'
same-verdict steady quiet steady' quiet' one other = ap (λ (it : Bool). verdict_of it quiet) one ∙ ap (verdict_of steady') other

turned : (answer : Bool) (found : Option ℕ) → is_some found ≡ not answer → answer ≡ is_none found
turned true None says = refl
turned false None says = absurd (true≢false (sym says))
turned true (Some line) says = absurd (true≢false says)
turned false (Some line) says = refl

pub none-of : (answer : Bool) (found : Option ℕ) → is_some found ≡ not answer → IsTrue answer → IsNone found
none-of answer found says is = says ∙ ap not is

pub kept-so : (answer : Bool) (found : Option ℕ) (lines : List ℕ) → is_some found ≡ not answer → found ≡ slice_get lines 0 → answer ≡ is_empty lines
kept-so answer found lines says is = turned answer found says ∙ ap is_none is ∙ sym (empty-first lines)
