use Rattle.std.proofs.Common.{◌≡◌, ◌<◌, ◌≤◌, ◌+◌, ℕ, Bool, true, false, List, length, get_or, Option, ap, sym, subst}
use Rattle.std.proofs.Common.{◌∙◌, arith}
use Rattle.std.specs.BinaryHeap.{heap_items}
use Rattle.ae_tree.specs.Limits.{statement_count}
use Rattle.ae_tree.specs.Plain.{Code}
use Rattle.ae_tree.specs.Shown.{code}
use Rattle.ae_meaning.specs.Running.{held}
use Rattle.ae_run.specs.declared.course.First.{First}
use Rattle.ae_run.specs.Main.{main_lines, main_uses}
use Rattle.ae_run.specs.Queue.{zero_as_one, waits_of, AreWaits, AreReady}
use Rattle.ae_run.specs.Course.{IsRight, Settles, went, was_taken}
use Rattle.ae_run.proofs.Programs.{main_tells}
use Rattle.ae_run.proofs.Courses.{fresh}
use Rattle.ae_run.proofs.Queues.{taken_now, ready_now, ready_rest, waits_kept, room, waits_after, ready_after}
use Rattle.ae_run.proofs.Queues.{fresh_waits, fresh_ready, fewer_open, over}
use Rattle.ae_run.proofs.schedule.run_block.Goals as goal
use Rattle.ae_text.specs.Numbers.{times}

pub settle-requires-clause-within : goal.settle-requires-clause-within
settle-requires-clause-within g c κs met =
    let p : Code = code c.args.code.now.program in
    let t = taken_now c.loop-j.course.fates.items c.loop-j.queue.waits.items (heap_items c.loop-j.queue.ready)
    (heap_items c.take.new.self.ready) c.in-Some.j c.loop-j.invariant.ready c.in-Some.ensures.ready in
    let l : c.in-Some.j < length c.loop-j.queue.waits.items = t.within in
    let e : length c.loop-j.queue.waits.items ≡ length c.args.graph.now = c.loop-j.invariant.waits.size in
    let f : length c.args.graph.now ≡ statement_count (main_lines p) = c.requires.graph.0 in
    omega arith

pub settle-requires-clause-counted : goal.settle-requires-clause-counted
settle-requires-clause-counted g c κs met =
    let p : Code = code c.args.code.now.program in
    let t = taken_now c.loop-j.course.fates.items c.loop-j.queue.waits.items (heap_items c.loop-j.queue.ready)
    (heap_items c.take.new.self.ready) c.in-Some.j c.loop-j.invariant.ready c.in-Some.ensures.ready in
    let l : c.in-Some.j < length c.loop-j.queue.waits.items = t.within in
    let e : length c.loop-j.queue.waits.items ≡ length c.args.graph.now = c.loop-j.invariant.waits.size in
    let f : length c.args.graph.now ≡ statement_count (main_lines p) = c.requires.graph.0 in
    let g : length c.loop-j.course.fates.items ≡ statement_count (main_lines p) = c.loop-j.invariant.course.size in
    omega arith

pub settle-requires-clause-ready : goal.settle-requires-clause-ready
settle-requires-clause-ready g c κs met =
    let p : Code = code c.args.code.now.program in
    let fs = c.loop-j.course.fates.items in
    let ws = c.loop-j.queue.waits.items in
    ready_now (main_uses p) (statement_count (main_lines p)) c.args.graph.now c.requires.graph fs ws c.in-Some.j
    c.loop-j.invariant.waits
    (taken_now fs ws (heap_items c.loop-j.queue.ready) (heap_items c.take.new.self.ready) c.in-Some.j
    c.loop-j.invariant.ready c.in-Some.ensures.ready)

pub settle-requires-clause-untaken : goal.settle-requires-clause-untaken
settle-requires-clause-untaken g c κs met =
    (taken_now c.loop-j.course.fates.items c.loop-j.queue.waits.items (heap_items c.loop-j.queue.ready)
    (heap_items c.take.new.self.ready) c.in-Some.j c.loop-j.invariant.ready c.in-Some.ensures.ready).untaken

pub succs-requires : goal.succs-requires
succs-requires g c =
    subst (λ n. c.in-Some.j < n) c.loop-j.invariant.waits.size
    (taken_now c.loop-j.course.fates.items c.loop-j.queue.waits.items (heap_items c.loop-j.queue.ready)
    (heap_items c.take.new.self.ready) c.in-Some.j c.loop-j.invariant.ready c.in-Some.ensures.ready).within

pub release-requires : goal.release-requires
release-requires g c = λ i.
    let p : Code = code c.args.code.now.program in
    let fs = c.loop-j.course.fates.items in
    let gs = c.settle.new.self.fates.items in
    let ws = c.loop-j.queue.waits.items in
    let j = c.in-Some.j in
    let t = taken_now fs ws (heap_items c.loop-j.queue.ready) (heap_items c.take.new.self.ready) j
    c.loop-j.invariant.ready c.in-Some.ensures.ready in
    let l : j < length fs = subst (λ n. j < n)
    (c.loop-j.invariant.waits.size ∙ c.requires.graph.0 ∙ sym c.loop-j.invariant.course.size) t.within in
    let s : Settles fs gs j true = subst (λ (x : Bool). Settles fs gs j x) c.if-through.true
    c.in_ok-through.ensures.fates in
    subst (λ (xs : List ℕ). times i c.succs.result.now ≤ get_or xs i 0) (sym c.in-Some.ensures.waits)
    (room (main_uses p) (statement_count (main_lines p)) c.args.graph.now c.requires.graph fs gs ws
    c.succs.result.now j l t.untaken s c.loop-j.invariant.waits
    c.succs.ensures i)

pub loop-j-init : goal.loop-j-init
loop-j-init g c =
    let p : Code = code c.args.code.now.program in
    let fs = c.in_ok-course.course.fates.items in
    let s = held c.in_ok-course.course.state in
    let n : length fs ≡ statement_count (main_lines p) = c.in_ok-course.ensures.size ∙ sym c.requires.size ∙
    c.requires.graph.0 in
    record {
      course = subst (λ (k : Option First). IsRight (main_lines p) (main_uses p) fs k s) (sym
          c.in_ok-course.ensures.first)
          (fresh (main_lines p) (main_uses p)
          (main_tells c.statements_read_what_they_use.ensures c.statements_change_what_they_write.ensures p
          c.args.code.now.accepted c.requires.built) fs s n c.in_ok-course.ensures.fates
          c.in_ok-course.ensures.locals c.in_ok-course.ensures.log);
      waits = fresh_waits c.args.graph.now fs c.in_ok-queue.queue.waits.items
          (c.in_ok-queue.ensures.size ∙ sym c.requires.size) c.in_ok-course.ensures.fates
          (λ j l. c.in_ok-queue.ensures.waits j (subst (λ m. j < m) c.requires.size l));
      ready = fresh_ready fs c.in_ok-queue.queue.waits.items (heap_items c.in_ok-queue.queue.ready)
          c.in_ok-course.ensures.fates c.in_ok-queue.ensures.ready;
    }

pub loop-j-smaller : goal.loop-j-smaller
loop-j-smaller g c =
    let fs = c.loop-j.course.fates.items in
    let j = c.in-Some.j in
    let t = taken_now fs c.loop-j.queue.waits.items (heap_items c.loop-j.queue.ready)
    (heap_items c.take.new.self.ready) j c.loop-j.invariant.ready c.in-Some.ensures.ready in
    let l : j < length fs = subst (λ n. j < n)
    (c.loop-j.invariant.waits.size ∙ c.requires.graph.0 ∙ sym c.loop-j.invariant.course.size) t.within in
    fewer_open fs c.settle.new.self.fates.items j c.in_ok-through.through l t.untaken c.in_ok-through.ensures.fates

pub loop-j-smaller-in-Continue-branch-4 : goal.loop-j-smaller-in-Continue-branch-4
loop-j-smaller-in-Continue-branch-4 g c =
    let fs = c.loop-j.course.fates.items in
    let j = c.in-Some.j in
    let t = taken_now fs c.loop-j.queue.waits.items (heap_items c.loop-j.queue.ready)
    (heap_items c.take.new.self.ready) j c.loop-j.invariant.ready c.in-Some.ensures.ready in
    let l : j < length fs = subst (λ n. j < n)
    (c.loop-j.invariant.waits.size ∙ c.requires.graph.0 ∙ sym c.loop-j.invariant.course.size) t.within in
    fewer_open fs c.settle.new.self.fates.items j c.in_ok-through.through l t.untaken c.in_ok-through.ensures.fates

pub loop-j-preserved : goal.loop-j-preserved
loop-j-preserved g c =
    let fs = c.loop-j.course.fates.items in
    let gs = c.settle.new.self.fates.items in
    let ws = c.loop-j.queue.waits.items in
    let ready = heap_items c.loop-j.queue.ready in
    let rest = heap_items c.take.new.self.ready in
    let j = c.in-Some.j in
    let t = taken_now fs ws ready rest j c.loop-j.invariant.ready c.in-Some.ensures.ready in
    let l : j < length fs = subst (λ n. j < n)
    (c.loop-j.invariant.waits.size ∙ c.requires.graph.0 ∙ sym c.loop-j.invariant.course.size) t.within in
    let s : Settles fs gs j false = subst (λ (x : Bool). Settles fs gs j x) c.if-through.false
    c.in_ok-through.ensures.fates in
    record {
      course = c.in_ok-through.ensures.course;
      waits = subst (λ (xs : List ℕ). AreWaits c.args.graph.now (went gs) xs) (sym c.in-Some.ensures.waits)
          (waits_kept c.args.graph.now fs gs ws j l t.untaken s c.loop-j.invariant.waits);
      ready = subst (λ (xs : List ℕ). AreReady (was_taken gs) xs rest) (sym c.in-Some.ensures.waits)
          (ready_rest fs gs ws ready rest j false l t.untaken c.loop-j.invariant.ready c.in-Some.ensures.ready s);
    }

pub loop-j-preserved-in-Continue-branch-4 : goal.loop-j-preserved-in-Continue-branch-4
loop-j-preserved-in-Continue-branch-4 g c =
    let p : Code = code c.args.code.now.program in
    let fs = c.loop-j.course.fates.items in
    let gs = c.settle.new.self.fates.items in
    let ws = c.loop-j.queue.waits.items in
    let now = c.release.new.self.waits.items in
    let ready = heap_items c.loop-j.queue.ready in
    let rest = heap_items c.take.new.self.ready in
    let later = heap_items c.release.new.self.ready in
    let j = c.in-Some.j in
    let w = c.in-Some.ensures.waits in
    let t = taken_now fs ws ready rest j c.loop-j.invariant.ready c.in-Some.ensures.ready in
    let l : j < length fs = subst (λ n. j < n)
    (c.loop-j.invariant.waits.size ∙ c.requires.graph.0 ∙ sym c.loop-j.invariant.course.size) t.within in
    let s : Settles fs gs j true = subst (λ (x : Bool). Settles fs gs j x) c.if-through.true
    c.in_ok-through.ensures.fates in
    record {
      course = c.in_ok-through.ensures.course;
      waits = waits_after (main_uses p) (statement_count (main_lines p)) c.args.graph.now c.requires.graph fs gs ws
          c.succs.result.now j l t.untaken s
          c.loop-j.invariant.waits c.succs.ensures now (c.release.ensures.size ∙ ap length w)
          (λ i. c.in_ok-release.ensures.waits i ∙ ap (λ xs. waits_of xs i) w);
      ready = ready_after gs ws now rest later
          (ready_rest fs gs ws ready rest j true l t.untaken c.loop-j.invariant.ready c.in-Some.ensures.ready s)
          (λ i. ap (λ (xs : List ℕ). times i later + zero_as_one (waits_of xs i)) (sym w)
          ∙ c.in_ok-release.ensures.ready i);
    }

pub returns-clause-over : goal.returns-clause-over
returns-clause-over g c = over c.args.graph.now c.loop-j.course.fates.items c.loop-j.queue.waits.items
    (heap_items c.loop-j.queue.ready) c.loop-j.invariant.waits c.loop-j.invariant.ready c.in_default.ensures.ready
