use Rattle.std.proofs.Common.{◌≡◌, ◌∙◌, ◌≤◌, Some, ap, sym, subst}
use Rattle.std.specs.Prelude.{IsUtf8}
use Rattle.std.proofs.lemmas.Result.{IfOk-weaker}
use Rattle.serde_json.specs.Data.{depth}
use Rattle.serde_json.specs.Read.{read}
use Rattle.serde_json.specs.View.{view}
use Rattle.serde_json.specs.Written.{compact_text, has_float}
use Rattle.solution_json.specs.Texts.{object_data, lists_data}
use Rattle.solution_json.proofs.Written.{object_depth, object_float, written}
use Rattle.solution_json.proofs.write.solution_text.Goals as goal

pub returns-clause-text : goal.returns-clause-text
returns-clause-text c =
    let s = c.args.s.now in
    let built : view c.in_ok-value.value ≡ object_data s.uid (lists_data s.lists) =
    c.in_ok-value.ensures ∙ ap (λ u. object_data u (view c.in_ok-flips.flips)) c.text.ensures.bytes ∙ ap (object_data s.uid) c.in_ok-flips.ensures.value in
    IfOk-weaker c.of.result _ _ (λ b e. e ∙ c.deref.ensures.value ∙ c.in_ok-text.ensures.text (ap has_float built ∙ object_float s.uid s.lists) ∙ ap compact_text built) c.of.ensures

pub returns-clause-spells : goal.returns-clause-spells
returns-clause-spells c =
    let s = c.args.s.now in
    let built : view c.in_ok-value.value ≡ object_data s.uid (lists_data s.lists) =
    c.in_ok-value.ensures ∙ ap (λ u. object_data u (view c.in_ok-flips.flips)) c.text.ensures.bytes ∙ ap (object_data s.uid) c.in_ok-flips.ensures.value in
    let deep : depth (view c.in_ok-value.value) ≤ 127 = subst (λ d. depth d ≤ 127) (sym built) (object_depth s.uid s.lists) in
    IfOk-weaker c.of.result _ _ (λ b e. record {
      value = object_data s.uid (lists_data s.lists);
      text = (subst IsUtf8 (sym (e ∙ c.deref.ensures.value)) c.in_ok-text.ensures.utf8, ap read (e ∙ c.deref.ensures.value) ∙ c.in_ok-text.ensures.reads_back deep ∙ ap (λ d. Some d) built);
      is = written s c.in_ok-flips.ensures.edges;
    }) c.of.ensures
