-- The table of commands: the first word of a line, the forms of the parts after it, and the value that they make. The commands are
-- this project's own choice; what they do follows the public standards and isn't defined here.
use Rattle.std.specs.Prelude.{List, [], ◌∷◌, codes}
use Rattle.text_io.specs.declared.kinds.Version.{Version}
use Rattle.text_io.specs.declared.kinds.Version.TheVariants.{First, Second}
use Rattle.script_model.specs.Syntax.{Action, Viewport, SetRatio, MakeBlock, MakeImage, MakeFrame, Append, Before, Remove, SetStyle, Grow, Load, MakeResizeObserver, ObserveResize, UnobserveResize, DisconnectResize, MakeIntersectionObserver, ObserveIntersection, UnobserveIntersection, DisconnectIntersection, TakeIntersections, Listen, Unlisten, MakeQueryList, ScrollTo, ScrollBy, RequestFrame, CancelFrame, SetTimer, ClearTimer, Post, Say, Read, Test, Wider, Taller, Matches, Attached, Seen}
use Rattle.script_model.specs.Keywords.{Keyword, keyword}
use Rattle.script_model.specs.Forms.{Form, NameForm, NodeForm, AimForm, HandlerForm, RootForm, LengthForm, SignedForm, PercentForm, WholeForm, EventForm, BoxForm, DimensionForm, DeclarationForm, JustForm, MarginForm, NumbersForm, QueryForm, From}

-- the test of a `when`: the forms of its words, and the test that they make
pub data TestShape : Type 0 where
  TestOf : (forms : List Form) (makes : From forms Test) → TestShape

abbrev pub tests : List (Keyword TestShape)
tests =
    keyword (codes "wider") (TestOf (NodeForm ∷ LengthForm ∷ []) Wider)
    ∷ keyword (codes "taller") (TestOf (NodeForm ∷ LengthForm ∷ []) Taller)
    ∷ keyword (codes "matches") (TestOf (NameForm ∷ []) Matches)
    ∷ keyword (codes "attached") (TestOf (NodeForm ∷ []) Attached)
    ∷ keyword (codes "seen") (TestOf [] Seen)
    ∷ []

-- what the first word of a line introduces
pub data Head : Type 0 where
  ActionHead : (forms : List Form) (makes : From forms Action) → Head
  TickHead : Head
  EachHead : Head
  WhenHead : Head
  HandlerHead : Head
  EndHead : Head

-- `io NAME DOCUMENT HANDLER root ROOT margin WORD* threshold NUMBER*`; in version 2 `scroll WORD*` may come before `threshold`
abbrev pub observer_forms : Version → List Form
observer_forms version =
    NameForm
    ∷ NameForm
    ∷ HandlerForm
    ∷ JustForm (codes "root")
    ∷ RootForm
    ∷ JustForm (codes "margin")
    ∷ MarginForm version
    ∷ JustForm (codes "threshold")
    ∷ NumbersForm
    ∷ []

abbrev pub make_observer : (version : Version) → From (observer_forms version) Action
make_observer version name document handler root_word root margin_word margins threshold_word thresholds =
    MakeIntersectionObserver (record {
      name = name;
      document = document;
      handler = handler;
      root = root;
      margin = margins.0;
      scroll = margins.1;
      thresholds = thresholds;
    })

-- the first words of both versions, and what they introduce
abbrev pub heads : Version → List (Keyword Head)
heads version =
    keyword (codes "viewport") (ActionHead (LengthForm ∷ LengthForm ∷ []) Viewport)
    ∷ keyword (codes "block") (ActionHead (NameForm ∷ NameForm ∷ []) MakeBlock)
    ∷ keyword (codes "image") (ActionHead (NameForm ∷ NameForm ∷ LengthForm ∷ LengthForm ∷ []) MakeImage)
    ∷ keyword (codes "frame") (ActionHead (NameForm ∷ NameForm ∷ NameForm ∷ []) MakeFrame)
    ∷ keyword (codes "append") (ActionHead (NodeForm ∷ NodeForm ∷ []) Append)
    ∷ keyword (codes "before") (ActionHead (NodeForm ∷ NodeForm ∷ NodeForm ∷ []) Before)
    ∷ keyword (codes "remove") (ActionHead (NodeForm ∷ []) Remove)
    ∷ keyword (codes "set") (ActionHead (NodeForm ∷ DeclarationForm version ∷ []) SetStyle)
    ∷ keyword (codes "grow") (ActionHead (NodeForm ∷ DimensionForm ∷ SignedForm ∷ []) Grow)
    ∷ keyword (codes "load") (ActionHead (NodeForm ∷ LengthForm ∷ LengthForm ∷ []) Load)
    ∷ keyword (codes "ro") (ActionHead (NameForm ∷ NameForm ∷ HandlerForm ∷ []) MakeResizeObserver)
    ∷ keyword (codes "ro-observe") (ActionHead (NameForm ∷ NodeForm ∷ BoxForm version ∷ []) ObserveResize)
    ∷ keyword (codes "ro-unobserve") (ActionHead (NameForm ∷ NodeForm ∷ []) UnobserveResize)
    ∷ keyword (codes "ro-disconnect") (ActionHead (NameForm ∷ []) DisconnectResize)
    ∷ keyword (codes "io") (ActionHead (observer_forms version) (make_observer version))
    ∷ keyword (codes "io-observe") (ActionHead (NameForm ∷ NodeForm ∷ []) ObserveIntersection)
    ∷ keyword (codes "io-unobserve") (ActionHead (NameForm ∷ NodeForm ∷ []) UnobserveIntersection)
    ∷ keyword (codes "io-disconnect") (ActionHead (NameForm ∷ []) DisconnectIntersection)
    ∷ keyword (codes "io-take") (ActionHead (NameForm ∷ []) TakeIntersections)
    ∷ keyword (codes "listen") (ActionHead (AimForm ∷ EventForm ∷ NameForm ∷ []) Listen)
    ∷ keyword (codes "unlisten") (ActionHead (AimForm ∷ EventForm ∷ NameForm ∷ []) Unlisten)
    ∷ keyword (codes "media") (ActionHead (NameForm ∷ NameForm ∷ QueryForm ∷ []) MakeQueryList)
    ∷ keyword (codes "scroll") (ActionHead (NodeForm ∷ SignedForm ∷ SignedForm ∷ []) ScrollTo)
    ∷ keyword (codes "scroll-by") (ActionHead (NodeForm ∷ SignedForm ∷ SignedForm ∷ []) ScrollBy)
    ∷ keyword (codes "raf") (ActionHead (NameForm ∷ NameForm ∷ NameForm ∷ []) RequestFrame)
    ∷ keyword (codes "cancel-raf") (ActionHead (NameForm ∷ NameForm ∷ []) CancelFrame)
    ∷ keyword (codes "timer") (ActionHead (NameForm ∷ NameForm ∷ WholeForm ∷ NameForm ∷ []) SetTimer)
    ∷ keyword (codes "clear-timer") (ActionHead (NameForm ∷ NameForm ∷ []) ClearTimer)
    ∷ keyword (codes "post") (ActionHead (NameForm ∷ NameForm ∷ []) Post)
    ∷ keyword (codes "say") (ActionHead (NameForm ∷ []) Say)
    ∷ keyword (codes "read") (ActionHead (NodeForm ∷ []) Read)
    ∷ keyword (codes "tick") TickHead
    ∷ keyword (codes "each") EachHead
    ∷ keyword (codes "when") WhenHead
    ∷ keyword (codes "handler") HandlerHead
    ∷ keyword (codes "end") EndHead
    ∷ []

-- the first word that only version 2 has
abbrev pub ratio_head : Keyword Head
ratio_head = keyword (codes "ratio") (ActionHead (PercentForm ∷ []) SetRatio)

-- all first words of a version
abbrev pub heads_in : Version → List (Keyword Head)
heads_in First = heads First
heads_in Second = ratio_head ∷ heads Second
