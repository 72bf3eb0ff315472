-- A core chooses in its own cache.
use Rattle.cached.specs.Layout.{state_of}
use Rattle.cached.proofs.Lacking.{place_own}
use Rattle.cached.proofs.act.place_for.Goals as goal

pub returns : goal.returns
returns c =
    place_own (state_of c.args.chip.now) c.args.k _ c.cache.ensures c.args.line c.place_for.result c.control-shared.result c.core.result c.code_line-code.result
    c.control-shared.ensures.value c.core.ensures c.code_line-code.ensures c.place_for.ensures
