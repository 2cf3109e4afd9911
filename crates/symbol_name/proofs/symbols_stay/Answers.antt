use Rattle.symbol_name.proofs.Stays.{symbol_stays}
use Rattle.symbol_name.proofs.symbols_stay.Goals as goal

pub returns : goal.returns
returns c = symbol_stays
