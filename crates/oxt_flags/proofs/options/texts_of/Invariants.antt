use Rattle.std.proofs.Common.{◌≡◌, IsUtf8, map, take}
use Rattle.std.specs.List.{All}
use Rattle.oxt_names.specs.Names.{name_bytes}
use Rattle.oxt_flags.proofs.options.texts_of.Given as goal

abbrev pub invariant-loop-word : goal.invariant-loop-word
invariant-loop-word l = record {
  same : map (λ t. t.now) l.texts.items ≡ map name_bytes (take l.word-index l.words);
  utf8 : All (λ t. IsUtf8 t.now) l.texts.items;
}
