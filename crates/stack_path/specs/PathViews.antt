-- What the code's paths stand for.
use Rattle.stack_path.specs.declared.paths.StackPath.{StackPath}
use Rattle.stack_path.specs.Paths.{PathView}

abbrev pub stack_path_view : StackPath → PathView
stack_path_view p = record { path = p.path; is_long = p.is_long; is_deep = p.is_deep }
