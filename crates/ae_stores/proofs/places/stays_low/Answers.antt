use Rattle.std.proofs.Common.{ap, sym, ◌∙◌, option_map}
use Rattle.ae_semantics.specs.Values.{put_at, is_low}
use Rattle.ae_values.specs.Shown.{shown}
use Rattle.ae_reads.specs.Answers.{one_name}
use Rattle.ae_running.specs.Seen.{seen}
use Rattle.ae_reads.specs.Views.{base_of}
use Rattle.ae_stores.specs.Stand.{whole_at}
use Rattle.ae_stores.proofs.WholeLemmas.{whole_bound, whole_member}
use Rattle.ae_stores.proofs.HeightLemmas.{low_by_height}
use Rattle.ae_stores.proofs.places.stays_low.Goals as goal

pub returns-in-Local : goal.returns-in-Local
returns-in-Local c = λ whole is new high.
    let run = c.args.run.now in
    let w = whole_bound one_name (option_map shown run.result) run.env c.in-Local.name whole
    (ap (λ b. whole_at (seen run) (base_of b)) (sym c.in-Local.is) ∙ is) in
    low_by_height c.height_with.result (put_at c.args.fields.now new (shown w.1))
    (c.height_with.ensures w.0 w.1 w.2 new high)
    ∙ ap (λ v. is_low (put_at c.args.fields.now new v)) w.3

pub returns-in-Member : goal.returns-in-Member
returns-in-Member c = λ whole is new high.
    let run = c.args.run.now in
    let m = whole_member (seen run) c.in-Member.member.group c.in-Member.member.number whole
    (ap (λ b. whole_at (seen run) (base_of b)) (sym c.in-Member.is) ∙ is) in
    low_by_height c.member_height_with.result _
    (c.member_height_with.ensures one_name (option_map shown run.result) m.0 m.2 m.1 m.3 new high)
    ∙ ap (λ v. is_low (put_at c.args.fields.now new v)) m.4
