-- The words of commands and tests: each is given by its word in the table of commands and the values of its parts, whose forms are those
-- that the table has for that word.
use Rattle.std.specs.Prelude.{ℕ, cond, List, [], ◌∷◌, ◌++◌, Option, Some, None, codes}
use Rattle.text_io.specs.declared.kinds.Version.{Version}
use Rattle.text_io.specs.declared.kinds.Version.TheVariants.{Second}
use Rattle.script_model.specs.Syntax.{Action, Viewport, SetRatio, MakeBlock, MakeImage, MakeFrame, Append, Before, Remove, SetStyle, Grow, Load, MakeResizeObserver, ObserveResize, UnobserveResize, DisconnectResize, MakeIntersectionObserver, ObserveIntersection, UnobserveIntersection, DisconnectIntersection, TakeIntersections, Listen, Unlisten, MakeQueryList, ScrollTo, ScrollBy, RequestFrame, CancelFrame, SetTimer, ClearTimer, Post, Say, Read, Test, Wider, Taller, Matches, Attached, Seen, Condition}
use Rattle.script_model.specs.Keywords.{Keyword}
use Rattle.script_model.specs.Commands.{TestShape, TestOf, tests, Head, ActionHead, heads, ratio_head}
use Rattle.script_text.specs.Parts.{Part, all_words}
use Rattle.script_text.specs.Entries.{Entry, entry_at, Takes, Phrase, phrase_at, parts_behind}

abbrev pub action_entry : Option Head → Option (Entry Action)
action_entry (Some (ActionHead forms makes)) = Some (record { forms = forms; makes = makes })
action_entry other = None

-- a version's table with all commands, so that each action has a phrase there
abbrev pub all_heads : Version → List (Keyword Head)
all_heads version = ratio_head ∷ heads version

abbrev pub action_at : Version → List ℕ → Option (Entry Action)
action_at version word = action_entry (entry_at (all_heads version) word)

abbrev pub says : (version : Version) (word : List ℕ) → Takes (action_at version word) (Phrase (action_at version))
says version word = phrase_at (action_at version) word

abbrev pub action_phrase : (version : Version) → Action → Phrase (action_at version)
action_phrase version (Viewport width height) = says version (codes "viewport") width height
action_phrase version (SetRatio hundredths) = says version (codes "ratio") hundredths
action_phrase version (MakeBlock name document) = says version (codes "block") name document
action_phrase version (MakeImage name document width height) = says version (codes "image") name document width height
action_phrase version (MakeFrame name document inside) = says version (codes "frame") name document inside
action_phrase version (Append parent node) = says version (codes "append") parent node
action_phrase version (Before parent node sibling) = says version (codes "before") parent node sibling
action_phrase version (Remove node) = says version (codes "remove") node
action_phrase version (SetStyle node declaration) = says version (codes "set") node declaration
action_phrase version (Grow node dimension by) = says version (codes "grow") node dimension by
action_phrase version (Load node width height) = says version (codes "load") node width height
action_phrase version (MakeResizeObserver name document handler) = says version (codes "ro") name document handler
action_phrase version (ObserveResize observer node observed) = says version (codes "ro-observe") observer node observed
action_phrase version (UnobserveResize observer node) = says version (codes "ro-unobserve") observer node
action_phrase version (DisconnectResize observer) = says version (codes "ro-disconnect") observer
action_phrase version (MakeIntersectionObserver making) =
    says version (codes "io") making.name making.document making.handler tt making.root tt (making.margin, making.scroll) tt making.thresholds
action_phrase version (ObserveIntersection observer node) = says version (codes "io-observe") observer node
action_phrase version (UnobserveIntersection observer node) = says version (codes "io-unobserve") observer node
action_phrase version (DisconnectIntersection observer) = says version (codes "io-disconnect") observer
action_phrase version (TakeIntersections observer) = says version (codes "io-take") observer
action_phrase version (Listen aim event handler) = says version (codes "listen") aim event handler
action_phrase version (Unlisten aim event handler) = says version (codes "unlisten") aim event handler
action_phrase version (MakeQueryList name document query) = says version (codes "media") name document query
action_phrase version (ScrollTo node left top) = says version (codes "scroll") node left top
action_phrase version (ScrollBy node left top) = says version (codes "scroll-by") node left top
action_phrase version (RequestFrame document key handler) = says version (codes "raf") document key handler
action_phrase version (CancelFrame document key) = says version (codes "cancel-raf") document key
action_phrase version (SetTimer document key delay handler) = says version (codes "timer") document key delay handler
action_phrase version (ClearTimer document key) = says version (codes "clear-timer") document key
action_phrase version (Post document handler) = says version (codes "post") document handler
action_phrase version (Say word) = says version (codes "say") word
action_phrase version (Read node) = says version (codes "read") node

abbrev pub action_head : Version → Action → List ℕ
action_head version action = (action_phrase version action).word

abbrev pub action_parts : Version → Action → List Part
action_parts version action = parts_behind (action_at version (action_head version action)) (action_phrase version action).values

-- an action is printed with the same words in both versions
abbrev pub action_words : Action → List (List ℕ)
action_words action = action_head Second action ∷ all_words (action_parts Second action)

abbrev pub test_entry : Option TestShape → Option (Entry Test)
test_entry (Some (TestOf forms makes)) = Some (record { forms = forms; makes = makes })
test_entry None = None

abbrev pub test_at : List ℕ → Option (Entry Test)
test_at word = test_entry (entry_at tests word)

abbrev pub asks : (word : List ℕ) → Takes (test_at word) (Phrase test_at)
asks word = phrase_at test_at word

abbrev pub test_phrase : Test → Phrase test_at
test_phrase (Wider node units) = asks (codes "wider") node units
test_phrase (Taller node units) = asks (codes "taller") node units
test_phrase (Matches query) = asks (codes "matches") query
test_phrase (Attached node) = asks (codes "attached") node
test_phrase Seen = asks (codes "seen")

abbrev pub test_head : Test → List ℕ
test_head test = (test_phrase test).word

abbrev pub test_parts : Test → List Part
test_parts test = parts_behind (test_at (test_head test)) (test_phrase test).values

-- `not` comes before a negated condition
abbrev pub condition_words : Condition → List (List ℕ)
condition_words condition =
    cond (condition.negated) (codes "not" ∷ []) [] ++ (test_head (condition.asks) ∷ all_words (test_parts (condition.asks)))
