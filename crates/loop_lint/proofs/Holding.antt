-- What holds of each command in the blocks of a script, at any nesting.
use Rattle.std.proofs.Common.{◌≡◌, refl, sym, ap, ◌∙◌, true≢false}
use Rattle.std.proofs.lemmas.Slice.Eq.{bytes_eq-Decides}
use Rattle.std.specs.Prelude.{bytes_eq, ℕ, zero, suc, unwrap_or, option_map, slice_get, Bool, true, false, cond, List, [], ◌∷◌, ◌++◌, flat_map, Option, Some, None, ⊤}
use Rattle.std.specs.List.{AllByRecursion}
use Rattle.script_model.specs.Syntax.{Action, MakeResizeObserver, Command, Simple, Each, When, Block, NoMore, Then, Item, Outside, Tick, Handler}
use Rattle.script_model.specs.Scripts.{NamedBlock, handlers_in}
use Rattle.loop_laws.proofs.Walk.{CommandHolds, BlockHolds}
use Rattle.loop_lint.specs.LoopHandlers.{lines_in, block_lines, item_lines, is_empty, names_handler, naming_lines, is_unnamed, HasHandlersOf, loop_handler_lines}

abbrev pub ItemHolds : (Action → Type 0) → Item → Type 0
ItemHolds P (Outside command) = CommandHolds P command
ItemHolds P (Tick line time) = ⊤
ItemHolds P (Handler line name block end_line) = BlockHolds P block

-- a block without lines of a test has no command that passes it

empty-parts : {A : Type 0} (xs ys : List A) → is_empty (xs ++ ys) ≡ true → (is_empty xs ≡ true) × (is_empty ys ≡ true)
empty-parts [] ys e = (refl, e)
empty-parts (x ∷ xs) ys e = absurd (true≢false (sym e))

empty-cond : (test : Bool) (line : ℕ) → is_empty (cond test (line ∷ []) []) ≡ true → test ≡ false
empty-cond true line e = absurd (true≢false (sym e))
empty-cond false line e = refl

-- where some tests pass none of a command's actions, `Q` of each action that none of them passes holds of the command
module _ {K : Type 0} (test : K → Action → Bool) (Q : Action → Type 0) (each : (action : Action) → ((k : K) → test k action ≡ false) → Q action) where
  mutual
    unfolding lines_in CommandHolds

    command-empty : (command : Command) → ((k : K) → is_empty (lines_in (test k) command) ≡ true) → CommandHolds Q command
    command-empty (Simple line action) e = each action (λ k. empty-cond (test k action) line (e k))
    command-empty (Each line block end_line) e = block-empty block e
    command-empty (When line condition block end_line) e = block-empty block e

    block-empty : (block : Block) → ((k : K) → is_empty (block_lines (test k) block) ≡ true) → BlockHolds Q block
    block-empty NoMore e = tt
    block-empty (Then command others) e = (
      command-empty command (λ k. (empty-parts (lines_in (test k) command) (block_lines (test k) others) (e k)).0),
      block-empty others (λ k. (empty-parts (lines_in (test k) command) (block_lines (test k) others) (e k)).1),
    )

  item-empty : (item : Item) → ((k : K) → is_empty (item_lines (test k) item) ≡ true) → ItemHolds Q item
  item-empty (Outside command) e = command-empty command e
  item-empty (Tick line time) e = tt
  item-empty (Handler line name block end_line) e = block-empty block e

  items-empty : (items : List Item) → ((k : K) → is_empty (flat_map (item_lines (test k)) items) ≡ true) → AllByRecursion (ItemHolds Q) items
  items-empty [] e = tt
  items-empty (item ∷ items) e = (
    item-empty item (λ k. (empty-parts (item_lines (test k) item) (flat_map (item_lines (test k)) items) (e k)).0),
    items-empty items (λ k. (empty-parts (item_lines (test k) item) (flat_map (item_lines (test k)) items) (e k)).1),
  )

abbrev pub Fails : (Action → Bool) → Action → Type 0
Fails test action = test action ≡ false

block-fails : (test : Action → Bool) (block : Block) → is_empty (block_lines test block) ≡ true → BlockHolds (Fails test) block
block-fails test block e = block-empty {K = ℕ} (λ k. test) (Fails test) (λ action none. none 0) block (λ k. e)

-- each `ro` of a script names a loop handler of it

module _ (unnamed : List ℕ → Bool) where
  abbrev pub IsNamedBy : Option (List ℕ) → Type 0
  IsNamedBy None = ⊤
  IsNamedBy (Some name) = unnamed name ≡ false

  -- a handler that an action gives an observer is a loop handler
  abbrev pub Names : Action → Type 0
  Names (MakeResizeObserver observer document handler) = IsNamedBy handler
  Names action = ⊤

  record IsUnnamed : Type 0 where
    name : List ℕ
    is : unnamed name ≡ true

  named-so : (name : List ℕ) → ((k : IsUnnamed) → bytes_eq name (k.name) ≡ false) → unnamed name ≡ false
  named-so name none = by (unnamed name) refl
    where
      by : (is : Bool) → unnamed name ≡ is → is ≡ false
      by true is = absurd (true≢false (sym ((bytes_eq-Decides name name).1 refl) ∙ none (record { name = name; is = is })))
      by false is = refl

  action-names : (action : Action) → ((k : IsUnnamed) → names_handler (k.name) action ≡ false) → Names action
  action-names (MakeResizeObserver observer document None) none = tt
  action-names (MakeResizeObserver observer document (Some name)) none = named-so name none
  action-names action none = tt

pub all-named : (items : List Item) → AllByRecursion (ItemHolds (Names (is_unnamed items))) items
unfolding naming_lines
all-named items =
    items-empty (λ (k : IsUnnamed (is_unnamed items)). names_handler (k.name)) (Names (is_unnamed items)) (action-names (is_unnamed items)) items (λ k. k.is)

-- the handlers of a script

pub handlers-hold : (P : Action → Type 0) (items : List Item) → AllByRecursion (ItemHolds P) items →
    AllByRecursion (λ (handler : NamedBlock). BlockHolds P (handler.block)) (handlers_in items)
unfolding handlers_in
handlers-hold P [] all = tt
handlers-hold P (Outside command ∷ items) all = handlers-hold P items (all.1)
handlers-hold P (Tick line time ∷ items) all = handlers-hold P items (all.1)
handlers-hold P (Handler line name block end_line ∷ items) all = (all.0, handlers-hold P items (all.1))

pub block-holds : (P : Action → Type 0) (script : List NamedBlock) → AllByRecursion (λ (handler : NamedBlock). BlockHolds P (handler.block)) script → (n : ℕ) →
    BlockHolds P (unwrap_or (option_map (λ (it : NamedBlock). it.block) (slice_get script n)) NoMore)
unfolding BlockHolds
block-holds P [] all n = tt
block-holds P (x ∷ xs) all zero = all.0
block-holds P (x ∷ xs) all (suc n) = block-holds P xs (all.1) n

-- a loop handler of a script that has no such lines holds no such command

kept-lines : (unnamed : Bool) (xs : List ℕ) → is_empty (cond unnamed [] xs) ≡ true → unnamed ≡ false → is_empty xs ≡ true
kept-lines true xs e is = absurd (true≢false is)
kept-lines false xs e is = e

module _ (test : Action → Bool) (unnamed : List ℕ → Bool) where
  abbrev pub IsClean : NamedBlock → Type 0
  IsClean handler = unnamed (handler.name) ≡ false → BlockHolds (Fails test) (handler.block)

  handlers-clean : (handlers : List NamedBlock) →
      is_empty (flat_map (λ (handler : NamedBlock). cond (unnamed (handler.name)) [] (block_lines test (handler.block))) handlers) ≡ true →
      AllByRecursion IsClean handlers
  handlers-clean [] e = tt
  handlers-clean (handler ∷ handlers) e =
      let parts = empty-parts (cond (unnamed (handler.name)) [] (block_lines test (handler.block))) _ e in
      ((λ is. block-fails test (handler.block) (kept-lines (unnamed (handler.name)) _ (parts.0) is)), handlers-clean handlers (parts.1))

pub loop-handlers-clean : (test : Action → Bool) (items : List Item) → is_empty (loop_handler_lines test items) ≡ true →
    AllByRecursion (IsClean test (is_unnamed items)) (handlers_in items)
unfolding loop_handler_lines
loop-handlers-clean test items e = handlers-clean test (is_unnamed items) (handlers_in items) e

-- scripts with the same handlers

handler-lines-same : (test : Action → Bool) (one other : List ℕ → Bool) → ((name : List ℕ) → other name ≡ one name) → (handlers : List NamedBlock) →
    flat_map (λ (handler : NamedBlock). cond (other (handler.name)) [] (block_lines test (handler.block))) handlers
    ≡ flat_map (λ (handler : NamedBlock). cond (one (handler.name)) [] (block_lines test (handler.block))) handlers
handler-lines-same test one other same [] = refl
handler-lines-same test one other same (handler ∷ handlers) =
    ap (λ (unnamed : Bool). cond unnamed [] (block_lines test (handler.block))
    ++ flat_map (λ (it : NamedBlock). cond (other (it.name)) [] (block_lines test (it.block))) handlers) (same (handler.name))
    ∙ ap (λ (rest : List ℕ). cond (one (handler.name)) [] (block_lines test (handler.block)) ++ rest) (handler-lines-same test one other same handlers)

pub lines-same : (test : Action → Bool) (items other : List Item) → HasHandlersOf items other → loop_handler_lines test other ≡ loop_handler_lines test items
unfolding loop_handler_lines
lines-same test items other has =
    ap (λ (handlers : List NamedBlock). flat_map (λ (handler : NamedBlock). cond (is_unnamed other (handler.name)) [] (block_lines test (handler.block))) handlers) (has.same)
    ∙ handler-lines-same test (is_unnamed items) (is_unnamed other) (has.named) (handlers_in items)
