use Rattle.std.proofs.Common.{rules, ◌≡◌, ap, refl, sym, ◌∙◌, inl, inr, ℕ}
use Rattle.std.proofs.lemmas.Option.{slice_get_within}
use Rattle.std.specs.Prelude.{Some, None}
use Rattle.water_model.specs.Basin.{head_of, instream_link}
use Rattle.water_model.specs.Lookups.{has}
use Rattle.plan_residual.proofs.Queues.{extends_same}
use Rattle.plan_residual.proofs.sources.see_own.Goals as goal

pub returns-in-Instream : goal.returns-in-Instream
returns-in-Instream c =
    let b = c.args.scene.now.basin in
    let on : instream_link b c.args.right ≡ Some c.in-Instream.link = search rules in
    let to : c.index-in-Instream.result.now.to ≡ head_of b c.in-Instream.link = search rules in
    record {
      in_queue = c.visit.ensures.in_queue;
      count = c.visit.ensures.count;
      extends = c.visit.ensures.extends;
      own = λ e l is.
          let same : c.in-Instream.link ≡ e = cc in
          ap (λ (n : ℕ). has c.visit.new.self.seen n) (sym (to ∙ ap (head_of b) same)) ∙ c.visit.ensures.on;
      only = λ v h. elim (c.visit.ensures.only v h) [
        | inl same ↦ inl (
          c.in-Instream.link,
          slice_get_within b.links c.in-Instream.link c.index-in-Instream.result.now
              (rw (ap (λ k. k.basin) c.scene.view_is) at c.index-in-Instream.ensures),
          on,
          sym to ∙ sym same,
        )
        | inr old ↦ inr old
      ];
    }

pub returns-in-Diversion : goal.returns-in-Diversion
returns-in-Diversion c =
    let off : instream_link c.args.scene.now.basin c.args.right ≡ None = search rules in
    record {
      in_queue = c.requires.queue.in_queue;
      count = refl;
      extends = extends_same c.args.queue.now;
      own = λ e l is. (let never : None ≡ Some e = sym off ∙ is in cc);
      only = λ v h. inr h;
    }

pub returns-in-Zone : goal.returns-in-Zone
returns-in-Zone c =
    let off : instream_link c.args.scene.now.basin c.args.right ≡ None = search rules in
    record {
      in_queue = c.requires.queue.in_queue;
      count = refl;
      extends = extends_same c.args.queue.now;
      own = λ e l is. (let never : None ≡ Some e = sym off ∙ is in cc);
      only = λ v h. inr h;
    }

pub visit-requires-clause-queue : goal.visit-requires-clause-queue
visit-requires-clause-queue c = c.requires.queue.in_queue
