-- What each actor does for a frame is an event of the machine.
use Rattle.sl_world.specs.Laws.{ProxiesGoOn, CoordinatorsGoOn, DirectoriesGoOn}
use Rattle.sl_world.specs.Worlds.{begun, landed}
use Rattle.sl_world.proofs.Events.{proxy_handed, coordinator_handed, directory_handed, give_goes_on}

pub proxies_go_on : ProxiesGoOn
proxies_go_on v v' p k f step is to gives is_now =
    give_goes_on v (record (landed (begun v) k) { proxy = p }) v' k f step is (proxy_handed (landed (begun v) k) p f step to gives) is_now

pub coordinators_go_on : CoordinatorsGoOn
coordinators_go_on v v' c k f step is to gives is_now =
    give_goes_on v (record (landed (begun v) k) { coordinator = c }) v' k f step is (coordinator_handed (landed (begun v) k) c f step to gives) is_now

pub directories_go_on : DirectoriesGoOn
directories_go_on v v' d k f step is to gives is_now =
    give_goes_on v (record (landed (begun v) k) { directory = d }) v' k f step is (directory_handed (landed (begun v) k) d f step to gives) is_now
