-- What was read is what was lowered, or is refused.
use Rattle.std.proofs.Common.{rules}
use Rattle.oxt_options.specs.Options.{transform_view}
use Rattle.oxt_transform.proofs.program.lower_source.Goals as goal

pub returns-in-Ok-lowered_lines-clause-lowered : goal.returns-in-Ok-lowered_lines-clause-lowered
returns-in-Ok-lowered_lines-clause-lowered g c = record {
  options = transform_view c.in-Ok-Some.options;
  given = search rules;
  bytes = c.in-Ok.bytes.items;
  read = c.in-Ok.ensures.all;
  within = c.in-Ok.ensures.within;
  lowered = rw c.as_slice.ensures.value at c.in-Ok-lowered_lines.ensures.lowers;
}

pub returns-clause-stopped : goal.returns-clause-stopped
returns-clause-stopped g c = record {
  options = transform_view c.in-Ok-Some.options;
  given = search rules;
  bytes = c.in-Ok.bytes.items;
  read = c.in-Ok.ensures.all;
  within = c.in-Ok.ensures.within;
  cause = rw c.as_slice.ensures.value at c.in-Err-lowered_lines.ensures.refused;
}
