use Rattle.transaction_laws.proofs.LoneStations.{other_station, own_station, own_world}
use Rattle.transaction_laws.proofs.stations.transactions_of_stations.Goals as goal

pub returns : goal.returns
returns c = record { own = own_station; world = own_world; others = other_station }
