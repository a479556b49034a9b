use Rattle.std.proofs.Common.{◌≡◌, ap, sym, ◌∙◌, option_map, slice_set}
use Rattle.std.proofs.Common.{rules, w64, to_z, of_z}
use Rattle.ae_semantics.specs.Values.{Owned, Array}
use Rattle.ae_semantics.specs.Places.{InLocal, InGroup, there, write_in}
use Rattle.ae_values.specs.Inside.{array_inside}
use Rattle.ae_values.specs.Shown.{shown}
use Rattle.ae_reads.specs.Answers.{one_name}
use Rattle.ae_reads.specs.Views.{base_of}
use Rattle.ae_running.specs.Seen.{seen}
use Rattle.ae_stores.specs.Stand.{whole_at, array_at, item_written}
use Rattle.ae_stores.proofs.OutcomeLemmas.{fine_first, there_is, given_first}
use Rattle.ae_stores.proofs.WholeLemmas.{whole_local, whole_member}
use Rattle.ae_stores.proofs.places.set_item.Goals as goal

pub returns-in-Local-clause-meant : goal.returns-in-Local-clause-meant
returns-in-Local-clause-meant c = λ s e.
    let run = c.args.run.now in
    let fields = c.args.fields.now in
    let same : to_z w64 (of_z w64 c.args.n) ≡ c.args.n = search rules in
    let base = InLocal c.in-Local.name in
    let a = fine_first (there (array_at (seen run) base fields))
    (λ ns. write_in (seen run) base fields (Owned (Array (slice_set ns c.args.at c.args.n)))) s
    (ap (λ b. item_written (seen run) (base_of b) fields c.args.at c.args.n) (sym c.in-Local.is) ∙ e) in
    let w = given_first (whole_at (seen run) base) (array_inside fields) a.0
    (there_is (array_at (seen run) base fields) a.0 a.1) in
    let b = whole_local (seen run) c.in-Local.name w.0 w.1 in
    c.set_item.ensures.meant one_name (option_map shown run.result) b.0 a.0 s b.1
    (ap (array_inside fields) b.2 ∙ w.2)
    (ap (λ m. write_in (seen run) base fields (Owned (Array (slice_set a.0 c.args.at m)))) same ∙ a.2)

pub returns-in-Member-clause-meant : goal.returns-in-Member-clause-meant
returns-in-Member-clause-meant c = λ s e.
    let run = c.args.run.now in
    let fields = c.args.fields.now in
    let same : to_z w64 (of_z w64 c.args.n) ≡ c.args.n = search rules in
    let g = c.in-Member.member.group in
    let n = c.in-Member.member.number in
    let base = InGroup g n in
    let a = fine_first (there (array_at (seen run) base fields))
    (λ ns. write_in (seen run) base fields (Owned (Array (slice_set ns c.args.at c.args.n)))) s
    (ap (λ b. item_written (seen run) (base_of b) fields c.args.at c.args.n) (sym c.in-Member.is) ∙ e) in
    let w = given_first (whole_at (seen run) base) (array_inside fields) a.0
    (there_is (array_at (seen run) base fields) a.0 a.1) in
    let m = whole_member (seen run) g n w.0 w.1 in
    c.set_member_item.ensures.meant one_name (option_map shown run.result) m.0 m.2 a.0 s m.1 m.3
    (ap (array_inside fields) m.4 ∙ w.2)
    (ap (λ k. write_in (seen run) base fields (Owned (Array (slice_set a.0 c.args.at k)))) same ∙ a.2)
