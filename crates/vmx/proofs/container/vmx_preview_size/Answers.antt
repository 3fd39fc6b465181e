-- `vmx::container::vmx_preview_size`.
use Rattle.vmx.proofs.Laws.{size_refused}
use Rattle.vmx.proofs.container.vmx_preview_size.Goals as goal

pub returns-in-Err : goal.returns-in-Err
returns-in-Err c = size_refused _ _ _ _ _ _ _ c.number.ensures c.in-Err.ensures.asked
