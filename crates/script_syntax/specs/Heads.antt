-- What first words introduce, in the terms of the definition's tables.
use Rattle.std.specs.Prelude.{List, [], ◌∷◌}
use Rattle.text_io.specs.declared.kinds.Version.{Version}
use Rattle.script_model.specs.Syntax as syntax
use Rattle.script_model.specs.Forms.{Form, NameForm, NodeForm, AimForm, HandlerForm, LengthForm, SignedForm, PercentForm, WholeForm, EventForm, BoxForm, DimensionForm, DeclarationForm, QueryForm, From}
use Rattle.script_model.specs.Commands as model
use Rattle.script_model.specs.Commands.{TestShape, TestOf, ActionHead, observer_forms, make_observer}
use Rattle.script_syntax.specs.declared.heads.Verb.{Verb}
use Rattle.script_syntax.specs.declared.heads.Verb.TheVariants as verb
use Rattle.script_syntax.specs.declared.heads.Head.{Head}
use Rattle.script_syntax.specs.declared.heads.Head.TheVariants as head
use Rattle.script_syntax.specs.declared.heads.Shape.{Shape}
use Rattle.script_syntax.specs.declared.heads.Shape.TheVariants as shape

-- the parts after a command's first word in each version, and what they make
abbrev pub forms_of : Version → Verb → List Form
forms_of version verb.Viewport = LengthForm ∷ LengthForm ∷ []
forms_of version verb.Ratio = PercentForm ∷ []
forms_of version verb.Block = NameForm ∷ NameForm ∷ []
forms_of version verb.Image = NameForm ∷ NameForm ∷ LengthForm ∷ LengthForm ∷ []
forms_of version verb.Frame = NameForm ∷ NameForm ∷ NameForm ∷ []
forms_of version verb.Append = NodeForm ∷ NodeForm ∷ []
forms_of version verb.Before = NodeForm ∷ NodeForm ∷ NodeForm ∷ []
forms_of version verb.Remove = NodeForm ∷ []
forms_of version verb.Set = NodeForm ∷ DeclarationForm version ∷ []
forms_of version verb.Grow = NodeForm ∷ DimensionForm ∷ SignedForm ∷ []
forms_of version verb.Load = NodeForm ∷ LengthForm ∷ LengthForm ∷ []
forms_of version verb.Ro = NameForm ∷ NameForm ∷ HandlerForm ∷ []
forms_of version verb.RoObserve = NameForm ∷ NodeForm ∷ BoxForm version ∷ []
forms_of version verb.RoUnobserve = NameForm ∷ NodeForm ∷ []
forms_of version verb.RoDisconnect = NameForm ∷ []
forms_of version verb.Io = observer_forms version
forms_of version verb.IoObserve = NameForm ∷ NodeForm ∷ []
forms_of version verb.IoUnobserve = NameForm ∷ NodeForm ∷ []
forms_of version verb.IoDisconnect = NameForm ∷ []
forms_of version verb.IoTake = NameForm ∷ []
forms_of version verb.Listen = AimForm ∷ EventForm ∷ NameForm ∷ []
forms_of version verb.Unlisten = AimForm ∷ EventForm ∷ NameForm ∷ []
forms_of version verb.Media = NameForm ∷ NameForm ∷ QueryForm ∷ []
forms_of version verb.Scroll = NodeForm ∷ SignedForm ∷ SignedForm ∷ []
forms_of version verb.ScrollBy = NodeForm ∷ SignedForm ∷ SignedForm ∷ []
forms_of version verb.Raf = NameForm ∷ NameForm ∷ NameForm ∷ []
forms_of version verb.CancelRaf = NameForm ∷ NameForm ∷ []
forms_of version verb.Timer = NameForm ∷ NameForm ∷ WholeForm ∷ NameForm ∷ []
forms_of version verb.ClearTimer = NameForm ∷ NameForm ∷ []
forms_of version verb.Post = NameForm ∷ NameForm ∷ []
forms_of version verb.Say = NameForm ∷ []
forms_of version verb.Read = NodeForm ∷ []

abbrev pub makes_of : (version : Version) (verb : Verb) → From (forms_of version verb) syntax.Action
makes_of version verb.Viewport = syntax.Viewport
makes_of version verb.Ratio = syntax.SetRatio
makes_of version verb.Block = syntax.MakeBlock
makes_of version verb.Image = syntax.MakeImage
makes_of version verb.Frame = syntax.MakeFrame
makes_of version verb.Append = syntax.Append
makes_of version verb.Before = syntax.Before
makes_of version verb.Remove = syntax.Remove
makes_of version verb.Set = syntax.SetStyle
makes_of version verb.Grow = syntax.Grow
makes_of version verb.Load = syntax.Load
makes_of version verb.Ro = syntax.MakeResizeObserver
makes_of version verb.RoObserve = syntax.ObserveResize
makes_of version verb.RoUnobserve = syntax.UnobserveResize
makes_of version verb.RoDisconnect = syntax.DisconnectResize
makes_of version verb.Io = make_observer version
makes_of version verb.IoObserve = syntax.ObserveIntersection
makes_of version verb.IoUnobserve = syntax.UnobserveIntersection
makes_of version verb.IoDisconnect = syntax.DisconnectIntersection
makes_of version verb.IoTake = syntax.TakeIntersections
makes_of version verb.Listen = syntax.Listen
makes_of version verb.Unlisten = syntax.Unlisten
makes_of version verb.Media = syntax.MakeQueryList
makes_of version verb.Scroll = syntax.ScrollTo
makes_of version verb.ScrollBy = syntax.ScrollBy
makes_of version verb.Raf = syntax.RequestFrame
makes_of version verb.CancelRaf = syntax.CancelFrame
makes_of version verb.Timer = syntax.SetTimer
makes_of version verb.ClearTimer = syntax.ClearTimer
makes_of version verb.Post = syntax.Post
makes_of version verb.Say = syntax.Say
makes_of version verb.Read = syntax.Read

abbrev pub head_of : Version → Head → model.Head
head_of version (head.Act verb) = ActionHead (forms_of version verb) (makes_of version verb)
head_of version head.Tick = model.TickHead
head_of version head.Each = model.EachHead
head_of version head.When = model.WhenHead
head_of version head.Handler = model.HandlerHead
head_of version head.End = model.EndHead

abbrev pub shape_of : Shape → TestShape
shape_of shape.Wider = TestOf (NodeForm ∷ LengthForm ∷ []) syntax.Wider
shape_of shape.Taller = TestOf (NodeForm ∷ LengthForm ∷ []) syntax.Taller
shape_of shape.Matches = TestOf (NameForm ∷ []) syntax.Matches
shape_of shape.Attached = TestOf (NodeForm ∷ []) syntax.Attached
shape_of shape.Seen = TestOf [] syntax.Seen
