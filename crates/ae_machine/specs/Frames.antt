-- A stack of frames as plain data: the levels of a run.
use Rattle.std.specs.Prelude.{List, map, reverse}
use Rattle.ae_tree.specs.Form.{form}
use Rattle.ae_tree.specs.Plain.{Lines}
use Rattle.ae_tree.specs.Shown.{expression, invocation, braced, lines_from, definition}
use Rattle.ae_levels.specs.Levels.{Aim, Nowhere, ToNew, ToOld, Level, InBlock, InLoop, InCall}
use Rattle.ae_machine.specs.declared.frame.Rest.{Rest}
use Rattle.ae_machine.specs.declared.frame.Target as code
use Rattle.ae_machine.specs.declared.frame.Target.TheVariants as t
use Rattle.ae_machine.specs.declared.frame.Frame.{Frame}
use Rattle.ae_machine.specs.declared.frame.Frame.TheVariants as fr

-- a target as plain data
abbrev pub aim : code.Target → Aim
aim t.Nowhere = Nowhere
aim (t.New ty x) = ToNew (form ty.now) x
aim (t.Old x) = ToOld x

-- the block of this frame, of which these statements are left
abbrev pub block_from : Rest → Lines → Level
block_from r lines = InBlock r.fuel r.depth (definition r.method.now) lines r.mark

-- a frame as plain data
abbrev pub level : Frame → Level
level (fr.Rest r) = block_from r (lines_from r.stmts.now)
level (fr.Turns l) = InLoop l.fuel l.depth (definition l.method.now) l.at (expression l.test.now)
    (braced l.body.now).lines
level (fr.Waiting w) = InCall w.at (invocation w.call.now) w.left (aim w.target)

-- the levels of a stack of frames, the innermost first
abbrev pub levels : List Frame → List Level
levels fs = map level (reverse fs)
