use Rattle.std.proofs.Common.{arith, ◌∷◌, Some, ap, ◌∙◌, sym, length}
use Rattle.atomic_table.specs.Table.{rest}
use Rattle.vcell.specs.Steps.{seen_in, ground_in, found_in}
use Rattle.vcell.proofs.Prefixes.{prefix_length}
use Rattle.vcell.proofs.Kept.{raises, releases, grown_from}
use Rattle.vcell.proofs.cell.Held.leave.Goals as goal

pub fetch_add-requires : goal.fetch_add-requires
fetch_add-requires g c = let i = c.self.invariant in let ex = c.exchange-empty.ensures in let v = c.self.view_is in let x = c.self.inside.value in (
  ex.0 ∙ (i.0 ∙ sym (ap (λ v. v.table) c.cell.view_is)),
  (let w = c.cell.invariant.0 in omega arith),
  raises g.V.Grows.entries g.V.Grows.ground _ _ _ _ i.3.0 x i.3.1 _ (ap (λ m. m.0.stage) ex.3 ∙ i.3.2) (ap (λ m. m.1) ex.3 ∙ ap (λ cs. (0, Some x) ∷ rest cs) i.2)
      (grown_from g.V.Grows.entries g.V.Grows.ground _ _ _ _ _ c.args.self i.3.2 (ap (λ h. h.found) v) (ap (λ h. h.lock) v) (ap (λ h. h.value) v) i.3.4 c.requires.ground c.requires.grown)
      (let e = c.count.ensures in let t = c.count.type_inv in omega arith) (let e = c.count.ensures in let n = i.3.3 in omega arith),
)

pub fetch_add-requires-2 : goal.fetch_add-requires-2
fetch_add-requires-2 g c = let i = c.self.invariant in let ex = c.exchange-empty.ensures in let x = c.self.inside.value in let held = ap (λ m. m.1) ex.3 ∙ ap (λ cs. (0, Some x) ∷ rest cs) i.2 in
    let up = c.fetch_add.ensures.2 x i.3.1 i.3.0 held (ap (λ m. m.0.stage) ex.3 ∙ i.3.2) in (
      c.fetch_add.ensures.0 ∙ (ex.0 ∙ (i.0 ∙ sym (ap (λ v. v.table) c.cell.view_is))),
      (let w = c.cell.invariant.0 in omega arith),
      releases g.V.Grows.entries g.V.Grows.ground _ _ _ _ i.3.0 x i.3.1 (ap (λ v. v.stage) up.0) (ap (λ v. v.last) up.0) (up.1 ∙ held),
    )

pub invariant_of-result : goal.invariant_of-result
invariant_of-result g c = let i = c.self.invariant in let ex = c.exchange-empty.ensures in let x = c.self.inside.value in let held = ap (λ m. m.1) ex.3 ∙ ap (λ cs. (0, Some x) ∷ rest cs) i.2 in
    let up = c.fetch_add.ensures.2 x i.3.1 i.3.0 held (ap (λ m. m.0.stage) ex.3 ∙ i.3.2) in let done = c.fetch_add-2.ensures.2 in
    (ap (λ v. v.seats) done.0 ∙ (ap (λ v. v.seats) up.0 ∙ (ap (λ m. m.0.seats) ex.3 ∙ i.1)), ap (λ v. v.stage) done.0, done.1)

pub returns-clause-own : goal.returns-clause-own
returns-clause-own g c = let i = c.self.invariant in let ex = c.exchange-empty.ensures in let x = c.self.inside.value in let v = c.self.view_is in let held = ap (λ m. m.1) ex.3 ∙ ap (λ cs. (0, Some x) ∷ rest cs) i.2 in
    let up = c.fetch_add.ensures.2 x i.3.1 i.3.0 held (ap (λ m. m.0.stage) ex.3 ∙ i.3.2) in let done = c.fetch_add-2.ensures.2 in let last = ap (λ v. v.last) done.0 ∙ ap (λ v. v.last) up.0 in (
      c.fetch_add-2.ensures.0 ∙ (c.fetch_add.ensures.0 ∙ (ex.0 ∙ (i.0 ∙ ap (λ h. h.lock.table) v))),
      ap (ground_in g.V.Grows.ground) last ∙ (ap (λ z. Some (g.V.Grows.ground z)) (ap (λ h. h.value) v) ∙ ap Some c.requires.ground),
    )

pub returns-clause-seen : goal.returns-clause-seen
returns-clause-seen g c = let i = c.self.invariant in let ex = c.exchange-empty.ensures in let x = c.self.inside.value in let v = c.self.view_is in let held = ap (λ m. m.1) ex.3 ∙ ap (λ cs. (0, Some x) ∷ rest cs) i.2 in
    let up = c.fetch_add.ensures.2 x i.3.1 i.3.0 held (ap (λ m. m.0.stage) ex.3 ∙ i.3.2) in let done = c.fetch_add-2.ensures.2 in let last = ap (λ v. v.last) done.0 ∙ ap (λ v. v.last) up.0 in
    ap (seen_in g.V.Grows.entries) last ∙ ap g.V.Grows.entries (ap (λ h. h.value) v)

pub returns-clause-made : goal.returns-clause-made
returns-clause-made g c = let i = c.self.invariant in let ex = c.exchange-empty.ensures in let x = c.self.inside.value in let v = c.self.view_is in let held = ap (λ m. m.1) ex.3 ∙ ap (λ cs. (0, Some x) ∷ rest cs) i.2 in
    let up = c.fetch_add.ensures.2 x i.3.1 i.3.0 held (ap (λ m. m.0.stage) ex.3 ∙ i.3.2) in let done = c.fetch_add-2.ensures.2 in
    let a = ap (λ v. v.made) done.0 ∙ ap (λ v. v.made) up.0 in let b = ap (λ m. m.0.made) ex.3 ∙ ap (λ h. h.made) v in let found = sym (ap (λ h. h.found) v) ∙ ap (found_in g.V.Grows.entries) i.3.2 in
    let f = ap (length {A = g.row.V-Entry.Denot}) found in let w = ap (λ h. length (g.V.Grows.entries h.value)) v in let le = prefix_length _ _ c.requires.grown in omega arith
