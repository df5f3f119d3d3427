use Rattle.std.proofs.Common.{◌≡◌, ◌∙◌, sym, ap, subst}
use Rattle.std.specs.Io.KnownBytes.{Appends}
use Rattle.oxt_json.specs.Spelling.{reading}
use Rattle.oxt_tree.specs.View.{node_doc}
use Rattle.oxt_facts.specs.Entry.{entries}
use Rattle.oxt_word.specs.Word.{word}
use Rattle.oxt_cases.specs.Lines.{lines}
use Rattle.oxt_cases.specs.Shown.{Shown}
use Rattle.oxt_cases.proofs.shown.show_word.Goals as goal

pub returns-in-Ok-write_all-clause-shown : goal.returns-in-Ok-write_all-clause-shown
returns-in-Ok-write_all-clause-shown g c =
    let same = c.as_slice-3.ensures.value ∙ c.in_ok-lines.ensures ∙ ap (λ xs. lines (entries xs)) c.as_slice-2.ensures.value ∙ ap lines c.in_ok-items.ensures ∙ ap (λ f. lines (word f (node_doc c.in-Ok-read_tree.program.root))) c.in_ok-facts.ensures in
    record {
      bytes = c.in-Ok.bytes.items;
      source = node_doc c.in-Ok-read_tree.program.root;
      next = c.in-Ok-read_tree.program.ids.next;
      gave = c.in-Ok.ensures.all;
      spelled = ap reading (sym c.as_slice.ensures.value) ∙ c.in-Ok-read_tree.ensures.tree;
      wrote = subst (Appends (g.O.Sink.taken c.args.out.now) (g.O.Sink.taken c.write_all.new.sink)) same c.in-Ok-write_all.ensures.all;
    }
